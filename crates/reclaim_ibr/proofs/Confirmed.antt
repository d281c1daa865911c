-- A load of the epoch changes of a guard what it holds and waits for, and its last reading, alone.
use Rattle.std.proofs.Common.{◌≡◌, ◌≢◌, ℕ, ◌∷◌, [], Bool, true, false, cond, eqb, Option, Some, None, refl, ap, ◌∙◌}
use Rattle.atomic_table.proofs.Lists.{set_else}
use Rattle.record_memory.specs.declared.books.Guard.{Guard}
use Rattle.row_words.specs.Refs.{RefParts}
use Rattle.record_rule.specs.Facts.{At}
use Rattle.record_rule.specs.Guards.{holding}
use Rattle.guard_facts.specs.Announcing.{word_of}
use Rattle.ibr_facts.specs.Keeping.{ibr_reached, ibr_confirmed, ibr_read}

pub confirmed_rest : (w : Option (ℕ × RefParts)) (g : Guard) (e : ℕ) → ibr_confirmed w g e ≡ record g { holds = (ibr_confirmed w g e).holds; pending = (ibr_confirmed w g e).pending }
confirmed_rest None g e = refl
confirmed_rest (Some w) g e = by (eqb e (word_of g 1))
  where
    by : (b : Bool) → cond b (holding g w.0 (Some w.1)) g ≡ record g { holds = (cond b (holding g w.0 (Some w.1)) g).holds; pending = (cond b (holding g w.0 (Some w.1)) g).pending }
    by true = refl
    by false = refl

-- where nothing waits, only the last reading
pub read_calm : (g : Guard) (e taken : ℕ) → g.pending ≡ None → ibr_read g.pending g e taken ≡ record g { readings = e ∷ []; reading_taken_out = taken }
read_calm g e taken none = ap (λ (w : Option (ℕ × RefParts)). ibr_read w g e taken) none

-- What is held elsewhere stays
pub reached_else : (g : Guard) (place : ℕ) (t : Option RefParts) (other : ℕ) (r : RefParts) → other ≢ place → At g.holds other (Some r) → At (ibr_reached g place t).holds other (Some r)
reached_else g place t other r ne at = set_else g.holds place other None ne ∙ at

pub read_else : (g : Guard) (place : ℕ) (t : RefParts) (e taken other : ℕ) (r : RefParts) → other ≢ place → At g.holds other (Some r) → At (ibr_read (Some (place, t)) g e taken).holds other (Some r)
read_else g place t e taken other r ne at = by (eqb e (word_of g 1))
  where
    by : (b : Bool) → At (cond b (holding g place (Some t)) g).holds other (Some r)
    by true = set_else g.holds place other (Some t) ne ∙ at
    by false = at
