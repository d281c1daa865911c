-- Which links are locked, through a step on one link, linking, taking out and freeing.
use Rattle.std.proofs.Common.{◌≡◌, ◌≢◌, ℕ, zero, suc, ◌+◌, ◌-◌, ◌<◌, ◌≤◌, List, [], ◌∷◌, length, set, cond, eqb, Bool, true, false, sym, refl, ap, ◌∙◌, subst, arith, ◌⊎◌, ⊎_elim, inl, inr, Some, None, get_or-set_same, get_or-set_other, get_or, ◌++◌, replicate}
use Rattle.std.specs.Prelude.{◌&&◌}
use Rattle.std.proofs.lemmas.Bool.{eqb-true, eq-eqb}
use native.Mathlib.Decide.{ℕ_discrete}
use mathlib.Core.Option.{some-injective, some-ne-none}
use lib.ListN.{get_elem?}
use Rattle.atomic_table.proofs.Lists.{at_set, set_here, set_else}
use Rattle.record_memory.specs.declared.books.LockedWord.{LockedWord}
use Rattle.row_words.specs.Refs.{LinkParts}
use Rattle.row_words.specs.Packing.{link_in, packed_link, packed_number, packed_key, IsLink}
use Rattle.row_words.proofs.Packed.{link_in-packed_link}
use Rattle.record_rule.specs.Inputs.{ShapeCell, hidden, root, linked, out}
use Rattle.record_rule.specs.Facts.{At, word_in, link_at, with_link, HasLock, ShapeFacts}
use Rattle.record_rule.specs.Laws.{root_body, recelled, HiddenCells}
use Rattle.record_rule.specs.Locks.{body_in, standing_in, IsOn, AreApart, locked_in, without, IsLocked, LockFits, LocksFit}
use Rattle.record_rule.proofs.Lists.{below_at, one_at, at_replicate, at_runs}
use Rattle.record_rule.proofs.SeenCells.{cell_before, cell_after}
use Rattle.record_rule.proofs.HeldMoves.{HasBody}

-- the test of a word says whether it is the one
pub is_on : (l : LockedWord) (i f : ℕ) → (eqb l.index i && eqb l.field f) ≡ true → IsOn l i f
is_on l i f e = by (eqb l.index i) refl e
  where
    by : (b : Bool) → eqb l.index i ≡ b → (b && eqb l.field f) ≡ true → IsOn l i f
    by true a e = (eqb-true l.index i a, eqb-true l.field f e)
    by false a e = let none : ⊥ = cc in absurd none

pub on_is : (l : LockedWord) (i f : ℕ) → IsOn l i f → (eqb l.index i && eqb l.field f) ≡ true
on_is l i f h = λ k. eq-eqb l.index i h.0 k && eq-eqb l.field f h.1 k

-- where a word of a list stands that holds this
pub record IsIn (i f : ℕ) (ls : List LockedWord) (value : ℕ) : Type 0 where
  pub place : ℕ
  pub entry : LockedWord
  pub at : At ls place entry
  pub on : IsOn entry i f
  pub holds : entry.value ≡ value

-- what the list says of a word is what an entry says
pub found_in : (i f value : ℕ) (ls : List LockedWord) → locked_in i f ls ≡ Some value → IsIn i f ls value
found_in i f value [] e = let none : ⊥ = cc in absurd none
found_in i f value (l ∷ ls) e = by (eqb l.index i && eqb l.field f) refl e (λ k. found_in i f value ls k)
  where
    by : (b : Bool) → (eqb l.index i && eqb l.field f) ≡ b → cond b (Some l.value) (locked_in i f ls) ≡ Some value → (locked_in i f ls ≡ Some value → IsIn i f ls value) → IsIn i f (l ∷ ls) value
    by true b e rest = record { place = 0; entry = l; at = refl; on = is_on l i f b; holds = let same : l.value ≡ value = cc in same }
    by false b e rest = let y = rest e in record { place = suc y.place; entry = y.entry; at = y.at; on = y.on; holds = y.holds }

-- an entry that is left of a list without a word was there, and is of another word
at_without : (i f : ℕ) (ls : List LockedWord) (k : ℕ) (l : LockedWord) → At (without i f ls) k l → ((j : ℕ) × At ls j l) × ¬ IsOn l i f
at_without i f [] k l e = absurd (some-ne-none l (sym e))
at_without i f (x ∷ xs) k l e = by (eqb x.index i && eqb x.field f) refl k e (λ q z. at_without i f xs q l z)
  where
    by : (b : Bool) → (eqb x.index i && eqb x.field f) ≡ b → (k : ℕ) → At (cond b (without i f xs) (x ∷ without i f xs)) k l → ((q : ℕ) → At (without i f xs) q l → ((j : ℕ) × At xs j l) × ¬ IsOn l i f) → ((j : ℕ) × At (x ∷ xs) j l) × ¬ IsOn l i f
    by true b k e rest = let y = rest k e in ((suc y.0.0, y.0.1), y.1)
    by false b zero e rest = let same = some-injective x l e in ((0, e), λ on. let wrong : false ≡ true = sym b ∙ on_is x i f (subst (λ (z : LockedWord). IsOn z i f) (sym same) on) in let none : ⊥ = cc in none)
    by false b (suc k) e rest = let y = rest k e in ((suc y.0.0, y.0.1), y.1)

-- and one of another word is left
kept_without : (i f : ℕ) (ls : List LockedWord) (j : ℕ) (l : LockedWord) → At ls j l → ¬ IsOn l i f → (k : ℕ) × At (without i f ls) k l
kept_without i f [] j l e ne = absurd (some-ne-none l (sym e))
kept_without i f (x ∷ xs) zero l e ne = by (eqb x.index i && eqb x.field f) refl
  where
    by : (b : Bool) → (eqb x.index i && eqb x.field f) ≡ b → (k : ℕ) × At (cond b (without i f xs) (x ∷ without i f xs)) k l
    by true b = absurd (ne (subst (λ (z : LockedWord). IsOn z i f) (some-injective x l e) (is_on x i f b)))
    by false b = (0, e)
kept_without i f (x ∷ xs) (suc j) l e ne = by (eqb x.index i && eqb x.field f) (kept_without i f xs j l e ne)
  where
    by : (b : Bool) → (k : ℕ) × At (without i f xs) k l → (k : ℕ) × At (cond b (without i f xs) (x ∷ without i f xs)) k l
    by true y = y
    by false y = (suc y.0, y.1)

-- no word stands twice in it
apart_without : (i f : ℕ) (ls : List LockedWord) → AreApart ls → AreApart (without i f ls)
apart_without i f [] h = tt
apart_without i f (x ∷ xs) h = by (eqb x.index i && eqb x.field f) (apart_without i f xs h.1)
  where
    by : (b : Bool) → AreApart (without i f xs) → AreApart (cond b (without i f xs) (x ∷ without i f xs))
    by true rest = rest
    by false rest = (λ k m e. let y = at_without i f xs k m e in h.0 y.0.0 m y.0.1, rest)

-- what stands is seen
pub seen_standing : (cell : ShapeCell) (body : List ℕ) → standing_in cell ≡ Some body → body_in cell ≡ Some body
seen_standing hidden body h = h
seen_standing (root generation b m) body h = h
seen_standing (linked generation b m) body h = h
seen_standing (out generation b m n) body h = let none : ⊥ = cc in absurd none

-- a record that can be reached is seen with its body
pub seen_body : (cell : ShapeCell) (generation m : ℕ) (body : List ℕ) → HasBody cell generation body m → body_in cell ≡ Some body
seen_body hidden generation m body h = let none : ⊥ = cc in absurd none
seen_body (root e b k) generation m body h = let same : b ≡ body = cc in ap Some same
seen_body (linked e b k) generation m body h = let same : b ≡ body = cc in ap Some same
seen_body (out e b k n) generation m body h = let same : b ≡ body = cc in ap Some same

-- and a cell has one body
pub one_body : (cell : ShapeCell) (a b : List ℕ) → body_in cell ≡ Some a → body_in cell ≡ Some b → a ≡ b
one_body cell a b p q = let e : Some a ≡ Some b = sym p ∙ q in let same : a ≡ b = cc in same

standing_recelled : (cell : ShapeCell) (a b : List ℕ) (m : ℕ) → standing_in cell ≡ Some a → standing_in (recelled cell b m) ≡ Some b
standing_recelled hidden a b m h = let none : ⊥ = cc in absurd none
standing_recelled (root generation c n) a b m h = refl
standing_recelled (linked generation c n) a b m h = refl
standing_recelled (out generation c n k) a b m h = let none : ⊥ = cc in absurd none

seen_recelled : (cell : ShapeCell) (a b : List ℕ) (m : ℕ) → body_in cell ≡ Some a → body_in (recelled cell b m) ≡ Some b
seen_recelled hidden a b m h = let none : ⊥ = cc in absurd none
seen_recelled (root generation c n) a b m h = refl
seen_recelled (linked generation c n) a b m h = refl
seen_recelled (out generation c n k) a b m h = refl

-- what is seen and was not taken out stands
pub seen_stands : (cell : ShapeCell) (body : List ℕ) → body_in cell ≡ Some body → ((generation m n : ℕ) (b : List ℕ) → cell ≡ out generation b m n → ⊥) → standing_in cell ≡ Some body
seen_stands hidden body h ok = h
seen_stands (root generation b m) body h ok = h
seen_stands (linked generation b m) body h ok = h
seen_stands (out generation b m n) body h ok = absurd (ok generation m n b refl)

module _ (s : ShapeFacts) (cells : List ShapeCell) (locks : List (List LockedWord)) (h : LocksFit s cells locks) where
  -- no link of the body is locked
  abbrev pub IsFree : List ℕ → Type 0
  IsFree body = (g : ℕ) → s.lockable g ≡ true → 3 ≤ g → ¬ HasLock (link_at body g)

  -- a record comes to be seen, or is taken out, none of whose links is locked
  pub locks_moved : (k : ℕ) (old new : ShapeCell) → At cells k old → ((body : List ℕ) → standing_in old ≡ Some body → IsFree body) → ((body : List ℕ) → body_in new ≡ Some body → IsFree body) → LocksFit s (set cells k new) locks
  locks_moved k old new at free comes = record {
    each = λ c j ls l a b. let x = h.each c j ls l a b in record {
      lockable = x.lockable;
      low = x.low;
      some_index = x.some_index;
      cell = x.cell;
      body = x.body;
      at = set_else cells k (l.index - 1) new (elsewhere l x) ∙ x.at;
      stands = x.stands;
      value = x.value;
      flag = x.flag;
    };
    alone = h.alone;
    apart = h.apart;
    flagged = λ i f cell body there seen may low flag. ⊎_elim
        (λ p. absurd (comes body (ap body_in p.1 ∙ seen) f may low flag))
        (λ p. h.flagged i f cell body p.1 seen may low flag) (at_set cells k i new cell there);
  }
    where
      elsewhere : (l : LockedWord) → LockFits s cells l → l.index - 1 ≢ k
      elsewhere l x e = let same : x.cell ≡ old = one_at cells k x.cell old (subst (λ (z : ℕ). At cells z x.cell) e x.at) at in
          free x.body (ap standing_in (sym same) ∙ x.stands) l.field x.lockable x.low (subst (λ (n : ℕ). HasLock (link_in n)) (sym x.value) x.flag)

  -- records that leave limbo have none
  pub locks_hidden : (cells' : List ShapeCell) → HiddenCells cells cells' → LocksFit s cells' locks
  locks_hidden cells' hid = record {
    each = λ c j ls l a b. let x = h.each c j ls l a b in record {
      lockable = x.lockable;
      low = x.low;
      some_index = x.some_index;
      cell = x.cell;
      body = x.body;
      at = cell_after cells cells' hid (l.index - 1) x.cell x.at (λ generation m n b e. let z : None ≡ Some x.body = sym (ap standing_in e) ∙ x.stands in let none : ⊥ = cc in none);
      stands = x.stands;
      value = x.value;
      flag = x.flag;
    };
    alone = h.alone;
    apart = h.apart;
    flagged = λ i f cell body there seen may low flag. h.flagged i f cell body (cell_before cells cells' hid i cell there (λ e. let z : None ≡ Some body = sym (ap body_in e) ∙ seen in let none : ⊥ = cc in none)) seen may low flag;
  }

  -- A node's link in word f is left as another one: of its other words nothing changes
  module _ (i f generation m : ℕ) (cell : ShapeCell) (body : List ℕ) (new : LinkParts) (at : At cells i cell) (seen : body_in cell ≡ Some body) (low : 3 ≤ f) (long : f - 3 < length body) (in_range : IsLink new) where
    abbrev body' : List ℕ
    body' = with_link body f generation new

    abbrev cells' : List ShapeCell
    cells' = set cells i (recelled cell body' m)

    here : At cells' i (recelled cell body' m)
    here = set_here cells i (recelled cell body' m) (below_at cells i cell at)

    seen' : body_in (recelled cell body' m) ≡ Some body'
    seen' = seen_recelled cell body body' m seen

    new_word : word_in body' f ≡ packed_link generation new
    new_word = get_or-set_same body (f - 3) (packed_link generation new) 0 long

    link_here : link_at body' f ≡ new
    link_here = ap link_in new_word ∙ link_in-packed_link generation new in_range

    other_word : (g : ℕ) → 3 ≤ g → g ≢ f → word_in body' g ≡ word_in body g
    other_word g le ne = get_or-set_other body (f - 3) (g - 3) (packed_link generation new) 0 (λ e. ne (omega arith))

    -- the record of a lock here is the node
    lock_at_node : (l : LockedWord) → LockFits s cells l → l.index - 1 ≡ i → (x : List ℕ) × (standing_in cell ≡ Some x) × (x ≡ body) × (word_in body l.field ≡ l.value)
    lock_at_node l x e = let same : x.cell ≡ cell = one_at cells i x.cell cell (subst (λ (z : ℕ). At cells z x.cell) e x.at) at in
        let stands : standing_in cell ≡ Some x.body = ap standing_in (sym same) ∙ x.stands in let is = one_body cell x.body body (seen_standing cell x.body stands) seen in
        (x.body, stands, is, ap (λ (z : List ℕ). word_in z l.field) (sym is) ∙ x.value)

    -- so the node's link has the flag where its word is locked
    locked_here : (l : LockedWord) → LockFits s cells l → IsOn l (i + 1) f → HasLock (link_at body f)
    locked_here l x on = let y = lock_at_node l x (let e = on.0 in omega arith) in subst (λ (n : ℕ). HasLock (link_in n)) (sym y.3 ∙ ap (word_in body) on.1) x.flag

    lockable_here : (l : LockedWord) → LockFits s cells l → IsOn l (i + 1) f → s.lockable f ≡ true
    lockable_here l x on = ap s.lockable (sym on.1) ∙ x.lockable

    -- a lock on another word stays
    stays_locked : (l : LockedWord) → LockFits s cells l → ¬ IsOn l (i + 1) f → LockFits s cells' l
    stays_locked l x ne = by (ℕ_discrete (l.index - 1) i)
      where
        by : Dec (l.index - 1 ≡ i) → LockFits s cells' l
        by (yes e) = let y = lock_at_node l x e in record {
          lockable = x.lockable;
          low = x.low;
          some_index = x.some_index;
          flag = x.flag;
          cell = recelled cell body' m;
          body = body';
          at = subst (λ (z : ℕ). At cells' z (recelled cell body' m)) (sym e) here;
          stands = standing_recelled cell y.0 body' m y.1;
          value = other_word l.field x.low (λ q. ne (let pos = x.some_index in omega arith, q)) ∙ y.3;
        }
        by (no d) = record { lockable = x.lockable; low = x.low; some_index = x.some_index; flag = x.flag; cell = x.cell; body = x.body; at = set_else cells i (l.index - 1) (recelled cell body' m) d ∙ x.at; stands = x.stands; value = x.value }

    -- a flag that is there is the node's new one, or was there
    data WasFlagged (j g : ℕ) : Type 0 where
      new_one : j ≡ i → g ≡ f → HasLock new → WasFlagged j g
      old_one : ¬ ((j ≡ i) × (g ≡ f)) → (c : ShapeCell) (b : List ℕ) → At cells j c → body_in c ≡ Some b → HasLock (link_at b g) → WasFlagged j g

    was_flagged : (j g : ℕ) (c : ShapeCell) (b : List ℕ) → At cells' j c → body_in c ≡ Some b → 3 ≤ g → HasLock (link_at b g) → WasFlagged j g
    was_flagged j g c b there shows le flag = ⊎_elim
        (λ p. by p.0 (one_body (recelled cell body' m) body' b seen' (ap body_in p.1 ∙ shows)) (ℕ_discrete g f))
        (λ q. old_one (λ e. q.0 e.0) c b q.1 shows flag) (at_set cells i j (recelled cell body' m) c there)
      where
        by : j ≡ i → body' ≡ b → Dec (g ≡ f) → WasFlagged j g
        by e same (yes q) = new_one e q (subst HasLock ((λ z. link_at (sym same z) (q z)) ∙ link_here) flag)
        by e same (no ne) = old_one (λ z. ne z.1) cell body (subst (λ (z : ℕ). At cells z cell) (sym e) at) seen (subst (λ (n : ℕ). HasLock (link_in n)) (ap (λ (z : List ℕ). word_in z g) (sym same) ∙ other_word g le ne) flag)

    -- It has no lock before nor after
    pub locks_stay : (s.lockable f ≡ true → ¬ HasLock (link_at body f)) → (s.lockable f ≡ true → ¬ HasLock new) → LocksFit s cells' locks
    locks_stay clear plain = record {
      each = λ c k ls l a b. let x = h.each c k ls l a b in stays_locked l x (λ on. clear (lockable_here l x on) (locked_here l x on));
      alone = h.alone;
      apart = h.apart;
      flagged = λ j g c b there shows may le flag. by j g may le (was_flagged j g c b there shows le flag);
    }
      where
        by : (j g : ℕ) → s.lockable g ≡ true → 3 ≤ g → WasFlagged j g → IsLocked locks (j + 1) g
        by j g may le (new_one e q flag) = absurd (plain (ap s.lockable (sym q) ∙ may) flag)
        by j g may le (old_one ne c b there shows flag) = h.flagged j g c b there shows may le flag

    module _ (c : ℕ) (mine : List LockedWord) (held : At locks c mine) where
      -- Caller c locks it
      module _ (l0 : LockedWord) (on0 : IsOn l0 (i + 1) f) (holds : l0.value ≡ packed_link generation new) (may : s.lockable f ≡ true) (stands : standing_in cell ≡ Some body) (clear : ¬ HasLock (link_at body f)) (locked : HasLock new) where
        abbrev locks' : List (List LockedWord)
        locks' = set locks c (l0 ∷ mine)

        -- the new one fits
        fits_new : LockFits s cells' l0
        fits_new = record {
          lockable = ap s.lockable on0.1 ∙ may;
          low = let e = on0.1 in omega arith;
          some_index = let e = on0.0 in omega arith;
          cell = recelled cell body' m;
          body = body';
          at = subst (λ (z : ℕ). At cells' z (recelled cell body' m)) (let e = on0.0 in let z : i ≡ l0.index - 1 = omega arith in z) here;
          stands = standing_recelled cell body body' m stands;
          value = ap (word_in body') on0.1 ∙ new_word ∙ sym holds;
          flag = subst HasLock (sym (ap link_in holds ∙ link_in-packed_link generation new in_range)) locked;
        }

        -- no lock was on that word
        none_on : (l : LockedWord) → LockFits s cells l → ¬ IsOn l (i + 1) f
        none_on l x on = clear (locked_here l x on)

        each_mine : (k : ℕ) (l : LockedWord) → At (l0 ∷ mine) k l → LockFits s cells' l
        each_mine zero l e = subst (LockFits s cells') (some-injective l0 l e) fits_new
        each_mine (suc k) l e = let x = h.each c k mine l held e in stays_locked l x (none_on l x)

        -- a lock afterwards is the new one of c, or was there
        data IsOlder (d : ℕ) (l : LockedWord) : Type 0 where
          newest : d ≡ c → IsOn l (i + 1) f → IsOlder d l
          older : (j : ℕ) (ms : List LockedWord) → At locks d ms → At ms j l → IsOlder d l

        is_older : (d k : ℕ) (ls : List LockedWord) (l : LockedWord) → At locks' d ls → At ls k l → IsOlder d l
        is_older d zero ls l a b = ⊎_elim
            (λ p. newest p.0 (subst (λ (z : LockedWord). IsOn z (i + 1) f) (some-injective l0 l (subst (λ (z : List LockedWord). At z 0 l) (sym p.1) b)) on0))
            (λ q. older 0 ls q.1 b) (at_set locks c d (l0 ∷ mine) ls a)
        is_older d (suc k) ls l a b = ⊎_elim
            (λ p. older k mine (subst (λ (z : ℕ). At locks z mine) (sym p.0) held) (subst (λ (z : List LockedWord). At z (suc k) l) (sym p.1) b))
            (λ q. older (suc k) ls q.1 b) (at_set locks c d (l0 ∷ mine) ls a)

        alone_by : (d e : ℕ) (l x : LockedWord) → IsOlder d l → IsOlder e x → IsOn l x.index x.field → d ≡ e
        alone_by d e l x (newest p on_l) (newest q on_x) on = p ∙ sym q
        alone_by d e l x (newest p on_l) (older j ms at_e in_e) on = absurd (none_on x (h.each e j ms x at_e in_e) (sym on.0 ∙ on_l.0, sym on.1 ∙ on_l.1))
        alone_by d e l x (older j ms at_d in_d) (newest q on_x) on = absurd (none_on l (h.each d j ms l at_d in_d) (on.0 ∙ on_x.0, on.1 ∙ on_x.1))
        alone_by d e l x (older j ms at_d in_d) (older k ns at_e in_e) on = h.alone d e j k ms ns l x at_d at_e in_d in_e on

        -- a lock that was there is there still
        still : (d k : ℕ) (ls : List LockedWord) (l : LockedWord) → At locks d ls → At ls k l → (j g : ℕ) → IsOn l j g → Dec (d ≡ c) → IsLocked locks' j g
        still d k ls l a b j g on (yes e) = (
          c,
          suc k,
          l0 ∷ mine,
          l,
          set_here locks c (l0 ∷ mine) (below_at locks c mine held),
          subst (λ (z : List LockedWord). At z k l) (one_at locks c ls mine (subst (λ (z : ℕ). At locks z ls) e a) held) b,
          on,
        )
        still d k ls l a b j g on (no ne) = (d, k, ls, l, set_else locks c d (l0 ∷ mine) ne ∙ a, b, on)

        flagged_by : (j g : ℕ) → s.lockable g ≡ true → 3 ≤ g → WasFlagged j g → IsLocked locks' (j + 1) g
        flagged_by j g ok le (new_one e q flag) = (c, 0, l0 ∷ mine, l0, set_here locks c (l0 ∷ mine) (below_at locks c mine held), refl, (on0.0 ∙ ap (λ (z : ℕ). z + 1) (sym e), on0.1 ∙ sym q))
        flagged_by j g ok le (old_one ne cl b there shows flag) = let y = h.flagged j g cl b there shows ok le flag in still y.0 y.1 y.2 y.3 y.4 y.5 (j + 1) g y.6 (ℕ_discrete y.0 c)

        pub locks_gained : LocksFit s cells' locks'
        locks_gained = record {
          each = λ d k ls l a b. ⊎_elim
              (λ p. each_mine k l (subst (λ (z : List LockedWord). At z k l) (sym p.1) b))
              (λ q. let x = h.each d k ls l q.1 b in stays_locked l x (none_on l x)) (at_set locks c d (l0 ∷ mine) ls a);
          alone = λ d e k j ls ms l x a b p q on. alone_by d e l x (is_older d k ls l a p) (is_older e j ms x b q) on;
          apart = λ d ls a. ⊎_elim
              (λ p. subst AreApart p.1 (λ k x e on. none_on x (h.each c k mine x held e) (on.0 ∙ on0.0, on.1 ∙ on0.1), h.apart c mine held))
              (λ q. h.apart d ls q.1) (at_set locks c d (l0 ∷ mine) ls a);
          flagged = λ j g cl b there shows ok le flag. flagged_by j g ok le (was_flagged j g cl b there shows le flag);
        }

      -- Caller c, which has it locked, leaves a link without the flag
      module _ (k0 : ℕ) (l0 : LockedWord) (own : At mine k0 l0) (on0 : IsOn l0 (i + 1) f) (plain : ¬ HasLock new) where
        abbrev fewer : List (List LockedWord)
        fewer = set locks c (without (i + 1) f mine)

        -- a lock afterwards was there
        was_there : (d k : ℕ) (ls : List LockedWord) (l : LockedWord) → At fewer d ls → At ls k l → (j : ℕ) × (ms : List LockedWord) × At locks d ms × At ms j l
        was_there d k ls l a b = ⊎_elim
            (λ p. let y = at_without (i + 1) f mine k l (subst (λ (z : List LockedWord). At z k l) (sym p.1) b) in (y.0.0, mine, subst (λ (z : ℕ). At locks z mine) (sym p.0) held, y.0.1))
            (λ q. (k, ls, q.1, b)) (at_set locks c d (without (i + 1) f mine) ls a)

        -- and one on another word is there still
        kept : (d k : ℕ) (ls : List LockedWord) (l : LockedWord) → At locks d ls → At ls k l → (j g : ℕ) → IsOn l (j + 1) g → ¬ ((j ≡ i) × (g ≡ f)) → Dec (d ≡ c) → IsLocked fewer (j + 1) g
        kept d k ls l a b j g on ne (yes e) =
            let y = kept_without (i + 1) f mine k l (subst (λ (z : List LockedWord). At z k l) (one_at locks c ls mine (subst (λ (z : ℕ). At locks z ls) e a) held) b) (λ q. ne (let x : j + 1 ≡ i + 1 = sym on.0 ∙ q.0 in let z : j ≡ i = omega arith in z, sym on.1 ∙ q.1)) in
            (c, y.0, without (i + 1) f mine, l, set_here locks c (without (i + 1) f mine) (below_at locks c mine held), y.1, on)
        kept d k ls l a b j g on ne (no far) = (d, k, ls, l, set_else locks c d (without (i + 1) f mine) far ∙ a, b, on)

        flagged_then : (j g : ℕ) → s.lockable g ≡ true → 3 ≤ g → WasFlagged j g → IsLocked fewer (j + 1) g
        flagged_then j g ok le (new_one e q flag) = absurd (plain flag)
        flagged_then j g ok le (old_one ne cl b there shows flag) = let y = h.flagged j g cl b there shows ok le flag in kept y.0 y.1 y.2 y.3 y.4 y.5 j g y.6 ne (ℕ_discrete y.0 c)

        pub locks_fewer : LocksFit s cells' fewer
        locks_fewer = record {
          each = λ d k ls l a b. ⊎_elim
              (λ p. let y = at_without (i + 1) f mine k l (subst (λ (z : List LockedWord). At z k l) (sym p.1) b) in stays_locked l (h.each c y.0.0 mine l held y.0.1) y.1)
              (λ q. stays_locked l (h.each d k ls l q.1 b) (λ on. q.0 (h.alone d c k k0 ls mine l l0 q.1 held b own (on.0 ∙ sym on0.0, on.1 ∙ sym on0.1)))) (at_set locks c d (without (i + 1) f mine) ls a);
          alone = λ d e k j ls ms l x a b p q on. let y = was_there d k ls l a p in let z = was_there e j ms x b q in h.alone d e y.0 z.0 y.1 z.1 l x y.2 z.2 y.3 z.3 on;
          apart = λ d ls a. ⊎_elim (λ p. subst AreApart p.1 (apart_without (i + 1) f mine (h.apart c mine held))) (λ q. h.apart d ls q.1) (at_set locks c d (without (i + 1) f mine) ls a);
          flagged = λ j g cl b there shows ok le flag. flagged_then j g ok le (was_flagged j g cl b there shows le flag);
        }

-- no word of a root is a locked link when a table is made
number_free : (first : ℕ) → ¬ HasLock (link_in (packed_number first 0))
unfolding link_in packed_number
number_free first h = omega arith

key_free : (first : ℕ) → ¬ HasLock (link_in (packed_key first 1 0))
unfolding link_in packed_key
key_free first h = omega arith

nothing_free : ¬ HasLock (link_in 0)
unfolding link_in
nothing_free h = omega arith

root_free : (first k : ℕ) → ¬ HasLock (link_in (get_or (root_body first) k 0))
root_free first zero = number_free first
root_free first (suc zero) = key_free first
root_free first (suc (suc zero)) = number_free first
root_free first (suc (suc (suc zero))) = number_free first
root_free first (suc (suc (suc (suc zero)))) = number_free first
root_free first (suc (suc (suc (suc (suc k))))) = nothing_free

-- so none is locked
pub none_locked : (s : ShapeFacts) (roots others callers first : ℕ) → LocksFit s (replicate roots (root first (root_body first) 0) ++ replicate others hidden) (replicate callers [])
none_locked s roots others callers first = record {
  each = λ c k ls l a b. absurd (no_lock c k ls l a b);
  alone = λ c d k j ls ms l m a b x y on. absurd (no_lock c k ls l a x);
  apart = λ c ls a. subst AreApart (at_replicate callers c [] ls a).1 tt;
  flagged = λ i f cell body there seen may low flag. absurd (no_flag f cell body (⊎_elim (λ p. inl p.1) (λ p. inr p.1) (at_runs roots others i (root first (root_body first) 0) hidden cell there)) seen flag);
}
  where
    no_lock : (c k : ℕ) (ls : List LockedWord) (l : LockedWord) → At (replicate callers []) c ls → At ls k l → ⊥
    no_lock c k ls l a b = some-ne-none l (sym (ap (λ (z : List LockedWord). get_elem? z k) (at_replicate callers c [] ls a).1 ∙ b))

    no_flag : (f : ℕ) (cell : ShapeCell) (body : List ℕ) → (root first (root_body first) 0 ≡ cell) ⊎ (hidden ≡ cell) → body_in cell ≡ Some body → HasLock (link_at body f) → ⊥
    no_flag f cell body is seen flag = ⊎_elim
        (λ e. let z : Some (root_body first) ≡ Some body = ap body_in e ∙ seen in let same : root_body first ≡ body = cc in root_free first (f - 3) (subst (λ (b : List ℕ). HasLock (link_at b f)) (sym same) flag))
        (λ e. let z : None ≡ Some body = ap body_in e ∙ seen in let none : ⊥ = cc in none) is
