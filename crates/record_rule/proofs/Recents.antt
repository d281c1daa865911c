-- What a pass noted reaches to the start of its caller's guard, and to where the records were reached that its caller knows something of.
use Rattle.std.proofs.Common.{◌≡◌, ℕ, ◌≤◌, List, map, length, set, Bool, true, false, refl, sym, ap, ◌∙◌, subst, arith, Option, Some, None, ⊎_elim}
use Rattle.std.proofs.lemmas.List.{length-map}
use mathlib.Core.Option.{some-ne-none}
use lib.ListN.{get_elem?}
use Rattle.atomic_table.proofs.Lists.{at_set}
use Rattle.record_memory.specs.declared.books.Setup.{Setup}
use Rattle.record_memory.specs.declared.books.Guard.{Guard}
use Rattle.record_memory.specs.declared.books.Note.{Note}
use Rattle.row_words.specs.Refs.{RefParts}
use Rattle.set_model.specs.declared.calls.Update.{Update}
use Rattle.record_rule.specs.Inputs.{ShapeCell, ShapeInput, Start}
use Rattle.record_rule.specs.Facts.{At, ShapeFacts, Moment}
use Rattle.record_rule.specs.Guards.{nothing_at, started_if}
use Rattle.record_rule.specs.Held.{HeldFits}
use Rattle.record_rule.specs.Known.{KnownFits}
use Rattle.record_rule.specs.Laws.{StartsIf, HoldsOnly}
use Rattle.record_rule.specs.World.{IsRecent}
use Rattle.record_rule.specs.Links.{Origin, from_root, from_place, note_in, note_word, noting, note_of, IsFound, roots_kept}
use Rattle.record_rule.proofs.Lists.{map_at}

-- a pass that noted more noted that
pub recent_more : (n m k l : ℕ) (g : Guard) (notes : List Note) → n ≤ m → k ≤ l → IsRecent n k g notes → IsRecent m l g notes
recent_more n m k l g notes updates taken_out h = record {
  updates_since = let a = h.updates_since in omega arith;
  taken_since = let a = h.taken_since in omega arith;
  reached = λ p note at. let a = h.reached p note at in omega arith;
  behind = h.behind;
  waits = h.waits;
}

-- a word that is noted says nothing of where its record was reached
recent_set : (n k p : ℕ) (note : Note) (g : Guard) (notes : List Note) → At notes p note → (f word : ℕ) → IsRecent n k g notes → IsRecent n k g (set notes p (note_word note f word))
recent_set n k p note g notes here f word h = let new : Note = note_word note f word in record {
  updates_since = h.updates_since;
  taken_since = h.taken_since;
  reached = λ q x at. ⊎_elim (λ a. subst (λ (z : Note). z.reached_at ≤ n) a.1 (h.reached p note here)) (λ a. h.reached q x a.1) (at_set notes p q new x at);
  behind = λ q r x hold at. ⊎_elim (λ a. subst (λ (z : Note). g.start_updates ≤ z.reached_at) a.1 (h.behind p r note (ap (get_elem? g.holds) (sym a.0) ∙ hold) here)) (λ a. h.behind q r x hold a.1) (at_set notes p q new x at);
  waits = λ q r x pends at. ⊎_elim (λ a. subst (λ (z : Note). g.start_updates ≤ z.reached_at) a.1 (h.waits p r note (pends ∙ (λ i. Some (a.0 i, r))) here)) (λ a. h.waits q r x pends a.1) (at_set notes p q new x at);
}

pub recent_noting : (n k : ℕ) (g : Guard) (notes : List Note) (b : Bool) (o : Origin) (f word : ℕ) → ((p : ℕ) (r : RefParts) → o ≡ from_place p r → At g.holds p (Some r) × At notes p (note_in notes p)) → IsRecent n k g notes → IsRecent n k g (noting b notes o f word)
recent_noting n k g notes false o f word there h = h
recent_noting n k g notes true (from_root m) f word there h = h
recent_noting n k g notes true (from_place p r) f word there h = recent_set n k p (note_in notes p) g notes (there p r refl).1 f word h

-- a guard that starts holds nothing
nothing_held : (l : List (Option RefParts)) (p : ℕ) (r : RefParts) → At (map nothing_at l) p (Some r) → ⊥
nothing_held l p r e = let x = map_at nothing_at l p (Some r) e in let none : None ≡ Some r = x.2 in cc

module _ (m : Moment) (g : Guard) (step : ℕ) (notes : List Note) where
  -- so it is recent where the pass noted the lists of its step
  pub recent_started : (b : Bool) → IsRecent m.updates m.taken_out g notes → IsRecent m.updates m.taken_out (started_if b m g step) notes
  recent_started false h = h
  recent_started true h = record {
    updates_since = omega arith;
    taken_since = omega arith;
    reached = h.reached;
    behind = λ p r note hold at. absurd (nothing_held g.holds p r hold);
    waits = λ p r note pends at. let none : ⊥ = cc in absurd none;
  }

  -- and what it holds fits
  pub held_started : (s : ShapeFacts) (places : ℕ) (cells : List ShapeCell) (taken_out : List RefParts) (b : Bool) → m.taken_out ≤ length taken_out → HeldFits s places cells taken_out g notes → HeldFits s places cells taken_out (started_if b m g step) notes
  held_started s places cells taken_out false le h = h
  held_started s places cells taken_out true le h = record {
    many = length-map g.holds nothing_at ∙ h.many;
    noted = h.noted;
    start = le;
    holds = λ p r note hold at. absurd (nothing_held g.holds p r hold);
    keyed = λ p r note hold at. absurd (nothing_held g.holds p r hold);
    waits = λ p r note pends at. let none : ⊥ = cc in absurd none;
  }

  -- and it keeps nothing
  pub known_started : (s : ShapeFacts) (setup : Setup) (x : ShapeInput) (updates : List Update) (roots : List (List ℕ)) (b : Bool) → KnownFits s setup x updates g notes roots → KnownFits s setup x updates (started_if b m g step) notes (roots_kept b roots)
  known_started s setup x updates roots false h = h
  known_started s setup x updates roots true h = record {
    held = λ p r note hold at. absurd (nothing_held g.holds p r hold);
    root = λ n l at. absurd (some-ne-none l (sym at));
  }

  -- it didn't start at a step that is still to come
  pub step_started : (b : Bool) (bound : ℕ) → step ≤ bound → g.start_step ≤ bound → (started_if b m g step).start_step ≤ bound
  step_started false bound now before = before
  step_started true bound now before = now

  pub words_started : (b : Bool) → (started_if b m g step).announced ≡ g.announced
  words_started false = refl
  words_started true = refl

-- a guard that starts with a step, or started before it, didn't start in the future
pub starts_by : (b : Bool) (m : Moment) (step : ℕ) (g new : Guard) → StartsIf b m step g new → g.start_updates ≤ m.updates → g.start_taken_out ≤ m.taken_out → (new.start_updates ≤ m.updates) × (new.start_taken_out ≤ m.taken_out)
starts_by true m step g new start updates taken_out = let a = start.updates in let b = start.taken_out in (omega arith, omega arith)
starts_by false m step g new start updates taken_out = let a = start.updates in let b = start.taken_out in (omega arith, omega arith)

-- what a caller reached it reached then
module _ (m : Moment) (g new : Guard) (p : ℕ) (t : Option RefParts) (notes : List Note) (s : ShapeFacts) (target : Option (List ℕ)) (found : IsFound t target) (only : HoldsOnly new g p t) (here : (r : RefParts) → At new.holds p (Some r) → t ≡ Some r)
    (pends : (q : ℕ) (r : RefParts) → new.pending ≡ Some (q, r) → (q ≡ p) × (t ≡ Some r) × ((u : RefParts) → ¬ At new.holds p (Some u))) (since : (new.start_updates ≤ m.updates) × (new.start_taken_out ≤ m.taken_out)) where
  abbrev note : Note
  note = note_of s target m.updates

  -- the number in its note is that of the load, where there is anything to hold
  reached_then : (r : RefParts) → t ≡ Some r → note.reached_at ≡ m.updates
  reached_then r e = let x : IsFound (Some r) target = subst (λ (z : Option RefParts). IsFound z target) e found in ap (λ (z : Option (List ℕ)). (note_of s z m.updates).reached_at) x.1

  not_later : (z : Option (List ℕ)) → (note_of s z m.updates).reached_at ≤ m.updates
  not_later None = omega arith
  not_later (Some b) = omega arith

  behind_it : (r : RefParts) → t ≡ Some r → new.start_updates ≤ note.reached_at
  behind_it r e = let a = since.0 in let b = reached_then r e in omega arith

  pub recent_reached : IsRecent m.updates m.taken_out g notes → IsRecent m.updates m.taken_out new (set notes p note)
  recent_reached h = record {
    updates_since = since.0;
    taken_since = since.1;
    reached = λ q x at. ⊎_elim (λ a. subst (λ (z : Note). z.reached_at ≤ m.updates) a.1 (not_later target)) (λ a. h.reached q x a.1) (at_set notes p q note x at);
    behind = λ q r x hold at. ⊎_elim (λ a. subst (λ (z : Note). new.start_updates ≤ z.reached_at) a.1 (behind_it r (here r (ap (get_elem? new.holds) (sym a.0) ∙ hold))))
        (λ a. ⊎_elim (λ y. subst (λ (z : Start). z.updates ≤ x.reached_at) y.1 (h.behind q r x y.0 a.1)) (λ y. absurd (a.0 y.0)) (only q r hold)) (at_set notes p q note x at);
    waits = λ q r x e at. let w = pends q r e in ⊎_elim (λ a. subst (λ (z : Note). new.start_updates ≤ z.reached_at) a.1 (behind_it r w.1)) (λ a. absurd (a.0 w.0)) (at_set notes p q note x at);
  }
