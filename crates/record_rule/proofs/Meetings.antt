-- A front goes from one pass to another by a message, and no fact about the table changes.
use Rattle.std.proofs.Common.{◌≡◌, ℕ, List, [], ◌∷◌, ◌++◌, length, ◌≤◌, get_or, set, Bool, true, false, sym, refl, ap, ◌∙◌, subst, arith, inl, inr, ⊎_elim}
use Rattle.std.proofs.lemmas.List.{set-get_or}
use Rattle.std.proofs.lemmas.Bool.{true≢false, both_ways}
use mathlib.Core.Option.{some, some-ne-none}
use lib.ListN.{get_elem?}
use Rattle.atomic_table.specs.Table.{Me, Allows, Splits, Joins, keeps}
use Rattle.atomic_table.proofs.Lists.{at_set, set_else}
use Rattle.set_model.specs.declared.calls.Update.{Update}
use Rattle.record_memory.specs.declared.books.Setup.{Setup}
use Rattle.record_memory.specs.declared.books.View.{View}
use Rattle.record_memory.specs.declared.books.Book.{Book}
use Rattle.row_words.specs.Refs.{RefParts}
use Rattle.record_rule.specs.Facts.{ShapeFacts, CoverFacts}
use Rattle.record_rule.specs.World.{StartsWith, carries, SeatFits, Rule}
use Rattle.record_rule.specs.Splits.{spent}
use Rattle.record_rule.specs.Beginnings.{begins, IsOneHistory}
use Rattle.record_rule.specs.Meetings.{message, heard_by, heard, HasMet}
use Rattle.record_rule.proofs.Lists.{get_at}
use Rattle.record_rule.proofs.Beginnings.{one_begins, starts_long, begins_true, begins_from}
use Rattle.record_rule.proofs.Rebuilt.{carries_own, starts_itself, reviewed}
use Rattle.record_rule.proofs.Seats.{at_end}

-- what a pass has after it took up a front, by the two tests
has_met : (b c : Bool) (v : View) (front : List Update) → begins v.front front ≡ b → begins front v.front ≡ c → IsOneHistory (heard_by b c v front) → HasMet v front (heard_by b c v front)
has_met true c v front e f h = record { own = begins_true v.front front e; met = starts_itself front; one = inr refl; rest = refl }
has_met false true v front e f h = record { own = starts_itself v.front; met = begins_true front v.front f; one = inl refl; rest = refl }
has_met false false v front e f h = ⊎_elim (λ t. absurd (both_ways _ e (begins_from v.front front t))) (λ t. absurd (both_ways _ f (begins_from front v.front t))) h

-- whatever the tests say
pub meets : (v : View) (front : List Update) → IsOneHistory (heard v front) → HasMet v front (heard v front)
meets v front h = has_met (begins v.front front) (begins front v.front) v front refl refl h

module _ (setup : Setup) (books : List Book) (seats : List ℕ) (taken_out : List RefParts) (updates : List Update) where
  -- a message carries no book
  message_fits : (j : ℕ) (front : List Update) → StartsWith updates front → SeatFits setup books seats taken_out updates j (message front)
  message_fits j front starts = record {
    setup_is = λ e. absurd (true≢false (sym e));
    books_are = λ p b e. absurd (some-ne-none b (sym e));
    apart = λ p q a b ea eb h. absurd (some-ne-none a (sym ea));
    front = starts;
    seen_updates = (updates, refl);
    seen_taken_out = (taken_out, refl);
    behind = λ p n b a e h. absurd (some-ne-none b (sym e));
    recent = λ p b e. absurd (some-ne-none b (sym e));
  }

  -- the same books with a longer front
  with_front : (j : ℕ) (v : View) (front : List Update) → v.present ≡ true → SeatFits setup books seats taken_out updates j v → StartsWith updates front → length v.front ≤ length front
      → SeatFits setup books seats taken_out updates j (record v { front = front })
  with_front j v front present f p long = let w : View = record v { front = front } in let same : carries w ≡ carries v = carries_own w present ∙ sym (carries_own v present) in record {
    setup_is = f.setup_is;
    books_are = λ p b e. f.books_are p b (ap (λ (l : List Book). get_elem? l p) (sym same) ∙ e);
    apart = λ p q a b ea eb h. f.apart p q a b (ap (λ (l : List Book). get_elem? l p) (sym same) ∙ ea) (ap (λ (l : List Book). get_elem? l q) (sym same) ∙ eb) h;
    front = p;
    seen_updates = f.seen_updates;
    seen_taken_out = f.seen_taken_out;
    behind = λ p n b a e h. let k = f.behind p n b a (ap (λ (l : List Book). get_elem? l p) (sym same) ∙ e) h in omega arith;
    recent = λ p b e. f.recent p b (ap (λ (l : List Book). get_elem? l p) (sym same) ∙ e);
  }

  -- a pass that took up a front fits
  heard_fits : (b c : Bool) (j : ℕ) (v : View) (front : List Update) → begins v.front front ≡ b → begins front v.front ≡ c → v.present ≡ true → SeatFits setup books seats taken_out updates j v → StartsWith updates front → SeatFits setup books seats taken_out updates j (heard_by b c v front)
  heard_fits true c j v front e h present f p = with_front j v front present f p (starts_long front v.front (begins_true v.front front e))
  heard_fits false true j v front e h present f p = f
  heard_fits false false j v front e h present f p = ⊎_elim (λ t. absurd (both_ways _ h (begins_from front v.front t))) (λ t. absurd (both_ways _ e (begins_from v.front front t))) (one_begins updates front v.front p f.front)

module _ (shape : ShapeFacts) (cover : CoverFacts) (setup : Setup) where
  -- a pass gives its front to a message
  pub sends : (id : ℕ) (v : View) → Splits (Rule shape cover setup) id v v (message v.front)
  sends id v s u at = let new : ℕ = length s.views in let Fits : ℕ → View → Type 0 = λ j x. SeatFits setup u.books u.seats u.taken_out u.updates j x in
      reviewed shape cover setup s u u.seats (set s.views id v ++ message v.front ∷ []) (λ j w e. ⊎_elim
      (λ q. ⊎_elim (λ t. subst (λ (z : ℕ). Fits z w) (sym t.0) (subst (Fits id) t.1 (u.seated id v at))) (λ t. u.seated j w t.1) (at_set s.views id j v w q))
      (λ q. subst (λ (z : ℕ). Fits z w) (sym q.0) (subst (Fits _) q.1 (message_fits setup u.books u.seats u.taken_out u.updates _ v.front (u.seated id v at).front)))
      (at_end (set s.views id v) (message v.front) w j e))

  -- a pass takes up the front of a message, which is spent
  pub hears : (id : ℕ) (v : View) (other : ℕ) (w : View) → v.present ≡ true → Joins (Rule shape cover setup) id v other w (heard v w.front) spent
  hears id v other w present s u at ne there = let there' : get_elem? s.views other ≡ some w = sym (set_else s.views id other (heard v w.front) ne) ∙ there in
      let Fits : ℕ → View → Type 0 = λ j x. SeatFits setup u.books u.seats u.taken_out u.updates j x in
      let mine : Fits id (heard v w.front) = heard_fits setup u.books u.seats u.taken_out u.updates (begins v.front w.front) (begins w.front v.front) id v w.front refl refl present (u.seated id v at) (u.seated other w there').front in
      reviewed shape cover setup s u u.seats (set (set s.views id (heard v w.front)) other spent) (λ j x e. ⊎_elim
      (λ t. subst (λ (z : ℕ). Fits z x) (sym t.0) (subst (Fits other) t.1 (message_fits setup u.books u.seats u.taken_out u.updates other [] (u.updates, refl))))
      (λ t. ⊎_elim (λ q. subst (λ (z : ℕ). Fits z x) (sym q.0) (subst (Fits id) q.1 mine)) (λ q. u.seated j x q.1) (at_set s.views id j (heard v w.front) x t.1))
      (at_set (set s.views id (heard v w.front)) other j spent x e))

  -- a look at any word shows that the pass knows one history
  pub looks : (slots id : ℕ) (me : Me (Unit {0}) View) (word : ℕ) → Allows (Rule shape cover setup) slots id me word (λ n. n) (λ n w. (w ≡ me) × IsOneHistory me.0)
  looks slots id me word s u wide at _ = let v : View = me.0 in let f = u.seated id v at in
      let words : set s.words word (get_or s.words word 0) ≡ s.words = set-get_or s.words word 0 in
      let views : set s.views id v ≡ s.views = ap (set s.views id) (sym (get_at s.views id v v at)) ∙ set-get_or s.views id v in (
        v,
        keeps,
        tt,
        subst (λ (z : List ℕ × List View). Rule shape cover setup record { words = z.0; homes = s.homes; views = z.1 }) (λ k. (sym words k, sym views k)) u,
        (refl, one_begins u.updates v.front v.seen_updates f.front f.seen_updates),
      )
