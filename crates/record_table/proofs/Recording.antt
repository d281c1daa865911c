-- What a step tells has it recorded as what it is.
use Rattle.std.proofs.Common.{◌≡◌, ◌≢◌, ℕ, ◌+◌, ◌-◌, ◌*◌, ◌%◌, ◌^◌, List, [], ◌∷◌, ◌++◌, get_or, Bool, true, false, cond, eqb, Option, Some, refl, sym, ap, ◌∙◌, subst, arith}
use Rattle.std.proofs.lemmas.Bool.{eqb-true, eqb-false}
use Rattle.set_model.specs.declared.calls.Call.{Call}
use Rattle.set_model.specs.declared.calls.Update.{Update}
use Rattle.record_memory.specs.declared.steps.Word.{Word}
use Rattle.record_memory.specs.declared.steps.Word.TheVariants.{Drawn, Epoch, Lock, Blank, Shelf, Announced, Cursor, Field}
use Rattle.record_memory.specs.declared.steps.StepKind.{StepKind}
use Rattle.record_memory.specs.declared.steps.StepKind.TheVariants.{Load, Store, Add, Exchange}
use Rattle.record_memory.specs.declared.books.Setup.{Setup}
use Rattle.record_memory.specs.declared.books.View.{View}
use Rattle.record_memory.specs.declared.books.Book.{Book}
use Rattle.record_memory.specs.declared.books.Share.{Share}
use Rattle.record_memory.specs.Memory.{word_at}
use Rattle.row_words.specs.Refs.{RefParts, LinkParts}
use Rattle.record_rule.specs.Facts.{ShapeFacts, CoverFacts, Reach, clean}
use Rattle.record_rule.specs.Kinds.{share_in, field_store, field_load, stored_as, stored, loaded, IsOverAs, IsOver, IsKnown, control_load, loaded_control, draw_step, drew, control_step, made_step}
use Rattle.record_rule.specs.OwnDraws.{own_draw_step, drew_own}
use Rattle.record_rule.specs.Freeing.{LoadedControl, LoadedBy}
use Rattle.record_rule.specs.TakesFree.{LoadedFree}
use Rattle.record_rule.specs.Placing.{placed_view}
use Rattle.record_rule.specs.Asides.{put_aside_as, put_aside, took_spare_as, took_spare}
use Rattle.record_rule.specs.Links.{Origin, from_place, index_of, node_step, LoadedKey, LoadedLink, ReachedTarget, link_word, locks_after, LeftLink, RefusedLink, ToldExchange, PublishedBy, ToldPublish, UnlinkedBy, ToldUnlink}
use Rattle.record_rule.specs.LockedLinks.{locks_left, StoredLink, PublishedLocked, UnlinkedLocked, ToldLocked}
use Rattle.record_memory.specs.declared.books.LockedWord.{LockedWord}
use Rattle.record_rule.specs.ControlSteps.{seeing_if, own_store, StoredControl, MayStoreControl}
use Rattle.record_table.specs.Recording.{Adds}
use Rattle.record_table.specs.ToldLinks.{ToldRetire}

-- what is known after the step is this
adds_by : (kind : StepKind) (place : Word) (found left : ℕ) (v w x : View) → w ≡ x → Adds kind place found left v x → Adds kind place found left v w
adds_by kind place found left v w x e a = subst (Adds kind place found left v) (sym e) a

-- the two cases of an exchange
by_exchange : (n old new : ℕ) (P : ℕ → Type 0) → (n ≡ old → P new) → (n ≢ old → P n) → P (cond (eqb n old) new n)
by_exchange n old new P made refused = by (eqb n old) refl
  where
    by : (b : Bool) → eqb n old ≡ b → P (cond b new n)
    by true e = made (eqb-true n old e)
    by false e = refused (eqb-false n old e)

-- steps on nodes
module _ (s : ShapeFacts) (v : View) (o : Origin) (f : ℕ) (place : Word) (name : place ≡ Field (index_of o) f) where
  pub adds_link : (c : CoverFacts) (first : Bool) (n : ℕ) (w : View) → LoadedLink s c v o f first n w → Adds Load place n n v w
  adds_link c first n w t = adds_by Load place n n v w _ t.view record { same = record { caller = refl; setup = refl; present = refl; others = refl }; step = node_step v Load o f n n; one = refl; kind_is = refl; word_is = sym name; found_is = refl; left_is = refl; idle_is = refl }

  pub adds_reach : (c : CoverFacts) (q : Reach) (t : Option RefParts) (n : ℕ) (w : View) → ReachedTarget s c v o f q t n w → Adds Load place n n v w
  adds_reach c q r n w t = adds_by Load place n n v w _ t.view record { same = record { caller = refl; setup = refl; present = refl; others = refl }; step = node_step v Load o f n n; one = refl; kind_is = refl; word_is = sym name; found_is = refl; left_is = refl; idle_is = refl }

  adds_refused : (n : ℕ) (w : View) → RefusedLink v o f n w → Adds Exchange place n n v w
  adds_refused n w t = adds_by Exchange place n n v w _ t.view record { same = record { caller = refl; setup = refl; present = refl; others = refl }; step = node_step v Exchange o f n n; one = refl; kind_is = refl; word_is = sym name; found_is = refl; left_is = refl; idle_is = refl }

  -- a step of any kind that left another link, linked an own record, or took one out
  module _ (kind : StepKind) (old : LinkParts) (locks : List LockedWord) (n : ℕ) (w : View) (found : n ≡ link_word v.setup o old) where
    adds_left : (new : LinkParts) (call : Option Call) → LeftLink s v kind o f old new call locks w → Adds kind place n (link_word v.setup o new) v w
    adds_left new call t = adds_by kind place n (link_word v.setup o new) v w _ t.view record {
      same = record { caller = refl; setup = refl; present = refl; others = refl };
      step = node_step v kind o f (link_word v.setup o old)
          (link_word v.setup o new);
      one = refl;
      kind_is = refl;
      word_is = sym name;
      found_is = sym found;
      left_is = refl;
      idle_is = refl;
    }

    adds_published : (own : RefParts) (call : Option Call) → PublishedBy s v kind o f old own call locks w → Adds kind place n (link_word v.setup o (clean own)) v w
    adds_published own call t = adds_by kind place n
        (link_word v.setup o (clean own)) v w _ t.view record {
          same = record { caller = refl; setup = refl; present = refl; others = refl };
          step = node_step v kind o f (link_word v.setup o old)
              (link_word v.setup o (clean own));
          one = refl;
          kind_is = refl;
          word_is = sym name;
          found_is = sym found;
          left_is = refl;
          idle_is = refl;
        }

    adds_unlinked : (gone : RefParts) (new : LinkParts) → UnlinkedBy s v kind o f old gone new locks w → Adds kind place n (link_word v.setup o new) v w
    adds_unlinked gone new t = adds_by kind place n (link_word v.setup o new) v w _ t.view record {
      same = record { caller = refl; setup = refl; present = refl; others = refl };
      step = node_step v kind o f (link_word v.setup o old)
          (link_word v.setup o new);
      one = refl;
      kind_is = refl;
      word_is = sym name;
      found_is = sym found;
      left_is = refl;
      idle_is = refl;
    }

  -- an exchange, by the key of the table
  abbrev Exchanges : Setup → LinkParts → LinkParts → ℕ → View → Type 0
  Exchanges setup old new n w = Adds Exchange place n (cond (eqb n (link_word setup o old)) (link_word setup o new) n) v w

  pub adds_exchange : (setup : Setup) → v.setup ≡ setup → (old new : LinkParts) (call : Option Call) (n : ℕ) (w : View) → ToldExchange s v o f old new call n w → Exchanges setup old new n w
  adds_exchange setup same old new call n w t = subst (λ (k : Setup). Exchanges k old new n w) same
      (by_exchange n (link_word v.setup o old) (link_word v.setup o new) (λ left. Adds Exchange place n left v w) (λ e. adds_left Exchange old (locks_after s v o f new) n w e new call (t.made e)) (λ ne. adds_refused n w (t.refused ne)))

  pub adds_publish : (setup : Setup) → v.setup ≡ setup → (old new : LinkParts) (own : RefParts) (call : Option Call) → new ≡ clean own → (n : ℕ) (w : View) → ToldPublish s v o f old own call n w → Exchanges setup old new n w
  adds_publish setup same old new own call is n w t = subst (λ (z : Setup × LinkParts). Exchanges z.0 old z.1 n w) (λ k. (same k, sym is k))
      (by_exchange n (link_word v.setup o old) (link_word v.setup o (clean own)) (λ left. Adds Exchange place n left v w) (λ e. adds_published Exchange old v.own.locks n w e own call (t.made e)) (λ ne. adds_refused n w (t.refused ne)))

  pub adds_unlink : (setup : Setup) → v.setup ≡ setup → (old new : LinkParts) (gone : RefParts) → old ≡ clean gone → (n : ℕ) (w : View) → ToldUnlink s v o f gone new n w → Exchanges setup old new n w
  adds_unlink setup same old new gone is n w t = subst (λ (z : Setup × LinkParts). Exchanges z.0 z.1 new n w) (λ k. (same k, sym is k))
      (by_exchange n (link_word v.setup o (clean gone)) (link_word v.setup o new) (λ left. Adds Exchange place n left v w) (λ e. adds_unlinked Exchange (clean gone) v.own.locks n w e gone new (t.made e)) (λ ne. adds_refused n w (t.refused ne)))

  -- a store by the caller that has the word locked, by the key of the table
  abbrev StoresLink : Setup → LinkParts → ℕ → View → Type 0
  StoresLink setup new n w = Adds Store place n (link_word setup o new) v w

  pub adds_stored_link : (setup : Setup) → v.setup ≡ setup → (new : LinkParts) (call : Option Call) (n : ℕ) (w : View) → ToldLocked v o f (λ x y. StoredLink s v o f x new call y) n w → StoresLink setup new n w
  adds_stored_link setup same new call n w t = subst (λ (k : Setup). StoresLink k new n w) same (adds_left Store t.old (locks_left v o f) n w t.found new call t.left)

  pub adds_publish_locked : (setup : Setup) → v.setup ≡ setup → (new : LinkParts) (own : RefParts) (call : Option Call) → new ≡ clean own → (n : ℕ) (w : View) → ToldLocked v o f (λ x y. PublishedLocked s v o f x own call y) n w → StoresLink setup new n w
  adds_publish_locked setup same new own call is n w t = subst (λ (z : Setup × LinkParts). StoresLink z.0 z.1 n w) (λ k. (same k, sym is k)) (adds_published Store t.old (locks_left v o f) n w t.found own call t.left)

  pub adds_unlink_locked : (setup : Setup) → v.setup ≡ setup → (new : LinkParts) (gone : RefParts) (n : ℕ) (w : View) → ToldLocked v o f (λ x y. UnlinkedLocked s v o f x gone new y) n w → StoresLink setup new n w
  adds_unlink_locked setup same new gone n w t = subst (λ (k : Setup). StoresLink k new n w) same (adds_unlinked Store t.old (locks_left v o f) n w t.found gone new t.left)

-- a load of a held record's key
pub adds_key : (v : View) (p : ℕ) (place : Word) (r : RefParts) → place ≡ Field r.index 4 → (n : ℕ) (w : View) → LoadedKey v p r n w → Adds Load place n n v w
adds_key v p place r name n w t = adds_by Load place n n v w _ t.view record {
  same = record { caller = refl; setup = refl; present = refl; others = refl };
  step = node_step v Load
      (from_place p r) 4 n n;
  one = refl;
  kind_is = refl;
  word_is = sym name;
  found_is = refl;
  left_is = refl;
  idle_is = refl;
}

-- the owner's steps on word f of record i
module _ (v : View) (i f : ℕ) (place : Word) (name : place ≡ Field i f) where
  pub adds_loaded : (n : ℕ) (w : View) → (w ≡ loaded v i f n) × IsKnown v i f n → Adds Load place n n v w
  adds_loaded n w t = adds_by Load place n n v w _ t.0 record { same = record { caller = refl; setup = refl; present = refl; others = refl }; step = field_load v i f n; one = refl; kind_is = refl; word_is = sym name; found_is = refl; left_is = refl; idle_is = refl }

  module _ (h : Share) (known : share_in v i ≡ Some h) where
    over : (n : ℕ) → IsOver v i f n → get_or h.words f 0 ≡ n
    over n t = sym (subst (λ (x : Option Share). IsOverAs x f n) known t)

    pub adds_stored : (value n : ℕ) (w : View) → (w ≡ stored v i f value) × IsOver v i f n → Adds Store place n value v w
    adds_stored value n w t = adds_by Store place n value v w _ (t.0
        ∙ ap (stored_as v i f value) known) record { same = record { caller = refl; setup = refl; present = refl; others = refl }; step = field_store v i f value h; one = refl; kind_is = refl; word_is = sym name; found_is = over n t.1; left_is = refl; idle_is = refl }

-- and on its chain word
module _ (v : View) (i : ℕ) (place : Word) (name : place ≡ Field i 1) (h : Share) (known : share_in v i ≡ Some h) where
  pub adds_aside : (value n : ℕ) (w : View) → (w ≡ put_aside v i value) × IsOver v i 1 n → Adds Store place n value v w
  adds_aside value n w t = adds_by Store place n value v w _ (t.0
      ∙ ap (put_aside_as v i value) known) record { same = record { caller = refl; setup = refl; present = refl; others = refl }; step = field_store v i 1 value h; one = refl; kind_is = refl; word_is = sym name; found_is = over v i 1 place name h known n t.1; left_is = refl; idle_is = refl }

  pub adds_spare : (n : ℕ) (w : View) → (w ≡ took_spare v i n) × IsKnown v i 1 n → Adds Load place n n v w
  adds_spare n w t = adds_by Load place n n v w _ (t.0 ∙ ap (took_spare_as v i n) known) record {
    same = record { caller = refl; setup = refl; present = refl; others = refl };
    step = field_load v i 1 n;
    one = refl;
    kind_is = refl;
    word_is = sym name;
    found_is = refl;
    left_is = refl;
    idle_is = refl;
  }

-- a free record is taken again
pub adds_free : (v : View) (r : RefParts) (place : Word) → place ≡ Field r.index 1 → (n : ℕ) (w : View) → LoadedFree v r n w → Adds Load place n n v w
adds_free v r place name n w t = adds_by Load place n n v w _ t.took.view record {
  same = record { caller = refl; setup = refl; present = refl; others = refl };
  step = field_load v r.index 1
      (get_or t.took.row 1 0);
  one = refl;
  kind_is = refl;
  word_is = sym name;
  found_is = sym t.found;
  left_is = sym t.found;
  idle_is = refl;
}

-- retiring
pub adds_retire : (v : View) (r : RefParts) (value : ℕ) (place : Word) → place ≡ Field r.index 2 → (n : ℕ) (w : View) → ToldRetire r value v n w → Adds Store place n value v w
adds_retire v r value place name n w t = adds_by Store place n value v w _ t.view record {
  same = record { caller = refl; setup = refl; present = refl; others = refl };
  step = field_store v r.index 2 value t.share;
  one = refl;
  kind_is = refl;
  word_is = sym name;
  found_is = over v r.index 2 place name t.share t.taken.known n t.over;
  left_is = refl;
  idle_is = refl;
}

-- control words
pub adds_control : (v : View) (x : Word) (place n : ℕ) (w : View) → x ≡ word_at v.setup.callers place → w ≡ loaded_control v place n → Adds Load x n n v w
adds_control v x place n w name e = adds_by Load x n n v w _ e record { same = record { caller = refl; setup = refl; present = refl; others = refl }; step = control_load v place n; one = refl; kind_is = refl; word_is = sym name; found_is = refl; left_is = refl; idle_is = refl }

-- a load by the word
pub adds_by_word : (c : CoverFacts) (v : View) (x : Word) (place n : ℕ) (w : View) → x ≡ word_at v.setup.callers place → LoadedBy c v (word_at v.setup.callers place) place n w → Adds Load x n n v w
adds_by_word c v x place n w name told = by (word_at v.setup.callers place) refl told
  where
    -- a load by which the reclaimer learns is recorded as what it is, too
    learns : LoadedControl c v place n w → Adds Load x n n v w
    learns t = adds_by Load x n n v w _ t.view record { same = record { caller = refl; setup = refl; present = refl; others = refl }; step = control_load v place n; one = refl; kind_is = refl; word_is = sym name; found_is = refl; left_is = refl; idle_is = refl }

    by : (y : Word) → word_at v.setup.callers place ≡ y → LoadedBy c v y place n w → Adds Load x n n v w
    by Epoch is t = learns t
    by (Announced k) is t = learns t
    by Drawn is t = adds_control v x place n w name t
    by Lock is t = adds_control v x place n w name t
    by Blank is t = adds_control v x place n w name t
    by (Shelf k) is t = adds_control v x place n w name t
    by (Cursor d) is t = adds_control v x place n w name t
    by (Field i f) is t = adds_control v x place n w name t

pub adds_placed : (v : View) (x : Word) (word place : ℕ) (call : Call) (reply : Bool) (n : ℕ) (w : View) → x ≡ word_at v.setup.callers word → w ≡ placed_view v word n place call reply → Adds Load x n n v w
adds_placed v x word place call reply n w name e = adds_by Load x n n v w _ e record { same = record { caller = refl; setup = refl; present = refl; others = refl }; step = control_load v word n; one = refl; kind_is = refl; word_is = sym name; found_is = refl; left_is = refl; idle_is = refl }

pub adds_noted : (v : View) (kind : StepKind) (x : Word) (place n left : ℕ) (w : View) → x ≡ word_at v.setup.callers place → w ≡ made_step v (control_step v kind place n left) → Adds kind x n left v w
adds_noted v kind x place n left w name e = adds_by kind x n left v w _ e record { same = record { caller = refl; setup = refl; present = refl; others = refl }; step = control_step v kind place n left; one = refl; kind_is = refl; word_is = sym name; found_is = refl; left_is = refl; idle_is = refl }

pub adds_draw : (v : View) (x : Word) (n : ℕ) (w : View) → x ≡ Drawn → w ≡ drew v n → (n + 1) % 2 ^ 64 ≡ n + 1 → Adds Add x n ((n + 1) % 2 ^ 64) v w
adds_draw v x n w name e one = adds_by Add x n ((n + 1) % 2 ^ 64) v w _ e record { same = record { caller = refl; setup = refl; present = refl; others = refl }; step = draw_step v n; one = refl; kind_is = refl; word_is = sym name; found_is = refl; left_is = sym one; idle_is = refl }

pub adds_own_draw : (v : View) (x : Word) (n k : ℕ) (w : View) → x ≡ Cursor v.own.caller → k ≡ n → w ≡ drew_own v n → Adds Store x k (n + 1) v w
adds_own_draw v x n k w name found e = adds_by Store x k (n + 1) v w _ e record { same = record { caller = refl; setup = refl; present = refl; others = refl }; step = own_draw_step v n; one = refl; kind_is = refl; word_is = sym name; found_is = sym found; left_is = refl; idle_is = refl }

module _ (c : CoverFacts) (v : View) (place : Word) (value found : ℕ) (w : View) where
  adds_if : (b : Bool) (updates : List Update) (taken_out : List RefParts) (own : Book) (k : ℕ) → own.caller ≡ v.own.caller → own.steps ≡ v.own.steps ++ own_store v k found value ∷ []
      → place ≡ Announced (4 * v.own.caller + k) → Adds Store place found value v (seeing_if b v updates taken_out own)
  adds_if true updates taken_out own k caller one name = record { same = record { caller = caller; setup = refl; present = refl; others = refl }; step = own_store v k found value; one = one; kind_is = refl; word_is = sym name; found_is = refl; left_is = refl; idle_is = refl }
  adds_if false updates taken_out own k caller one name = record { same = record { caller = caller; setup = refl; present = refl; others = refl }; step = own_store v k found value; one = one; kind_is = refl; word_is = sym name; found_is = refl; left_is = refl; idle_is = refl }

  -- a store in an own announcement word
  pub adds_own : (y : Word) → place ≡ y → MayStoreControl c v y value → StoredControl c v y value found w → Adds Store place found value v w
  adds_own (Announced j) name may t = let k : ℕ = j - 4 * v.own.caller in adds_by Store place found value v w _ t.view
      (adds_if (c.begins v.own.guard k value) t.updates t.taken_out _ k refl refl (name ∙ ap Announced (let le = may.0 in let e : j ≡ 4 * v.own.caller + k = omega arith in e)))
  adds_own Drawn name may t = absurd may
  adds_own Epoch name may t = absurd may
  adds_own Lock name may t = absurd may
  adds_own Blank name may t = absurd may
  adds_own (Shelf k) name may t = absurd may
  adds_own (Cursor d) name may t = absurd may
  adds_own (Field i f) name may t = absurd may
