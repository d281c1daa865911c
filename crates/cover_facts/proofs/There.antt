-- What is there at its generation, and behind a start, stays there through a record's moves.
use Rattle.std.specs.Prelude.{◌≡◌, ℕ, ◌+◌, ◌-◌, ◌<◌, ◌≤◌, [], ◌∷◌, ◌++◌, ◌&&◌, length, List, Bool, true, false, Option, Some, None, refl}
use Rattle.std.proofs.Common.{arith, sym, ap, ◌∙◌, subst, ⊎_elim, inl, inr, set, length-set}
use Rattle.std.proofs.lemmas.List.{length-map}
use native.Mathlib.Decide.{ℕ_discrete}
use mathlib.Core.Option.{some, some-ne-none}
use lib.ListN.{get_elem?}
use Rattle.atomic_table.proofs.Lists.{at_set, set_here, set_else}
use Rattle.record_memory.specs.declared.books.Setup.{Setup}
use Rattle.record_memory.specs.declared.books.Guard.{Guard}
use Rattle.row_words.specs.Refs.{RefParts, refer}
use Rattle.set_model.specs.declared.names.ReclaimerName.TheVariants.{Nothing}
use Rattle.record_rule.specs.Inputs.{start_of, SchemeCell, unseen, reachable, unpublished, unretired, limbo, SchemeInput}
use Rattle.record_rule.specs.Facts.{At, Moment, Reach, CoverFacts}
use Rattle.record_rule.specs.Guards.{blank_guard, nothing_at, started_if, holding}
use Rattle.record_rule.specs.Laws.{IsThereAs, IsThere, StartsIf, HasReached, IsFreed, goes, stays, FreedCells, CoverLaws}
use Rattle.record_rule.specs.Least.{holds_nothing}
use Rattle.record_rule.proofs.Lists.{below_at, at_below, one_at, map_at}
use Rattle.record_rule.proofs.Seats.{at_end}

-- a record that stays at its index, or moves on
pub stays_there : (x : SchemeInput) (i : ℕ) (new : SchemeCell) (t : RefParts) (k : ℕ) → IsThere x t k → ((cell : SchemeCell) → At x.cells i cell → t.index - 1 ≡ i → IsThereAs cell t.generation k → IsThereAs new t.generation k)
    → IsThere (record x { cells = set x.cells i new }) t k
stays_there x i new t k h moves = by (ℕ_discrete (t.index - 1) i)
  where
    by : Dec (t.index - 1 ≡ i) → IsThere (record x { cells = set x.cells i new }) t k
    by (yes e) = (
      new,
      h.1,
      ap (get_elem? (set x.cells i new)) e ∙ set_here x.cells i new (let l = below_at x.cells (t.index - 1) h.0 h.2 in omega arith),
      moves h.0 (subst (λ (z : ℕ). At x.cells z h.0) e h.2) e h.3,
    )
    by (no ne) = (h.0, h.1, set_else x.cells i (t.index - 1) new ne ∙ h.2, h.3)

-- it stays there where its cell stays, or comes to the next place of its life
module _ (x : SchemeInput) (i : ℕ) where
  pub linked_stays : (d generation b : ℕ) → At x.cells i (unpublished d generation b) → (cell : SchemeCell) (t : RefParts) (k : ℕ) → At x.cells i cell → IsThereAs cell t.generation k → IsThereAs (reachable generation b) t.generation k
  linked_stays d generation b at cell t k here there = absurd (subst (λ (c : SchemeCell). IsThereAs c t.generation k) (one_at x.cells i cell (unpublished d generation b) here at) there)

  pub handed_stays : (d generation b : ℕ) → At x.cells i unseen → (cell : SchemeCell) (t : RefParts) (k : ℕ) → At x.cells i cell → IsThereAs cell t.generation k → IsThereAs (unpublished d generation b) t.generation k
  handed_stays d generation b at cell t k here there = absurd (subst (λ (c : SchemeCell). IsThereAs c t.generation k) (one_at x.cells i cell unseen here at) there)

  pub taken_stays : (d generation b n : ℕ) → At x.cells i (reachable generation b) → (cell : SchemeCell) (t : RefParts) (k : ℕ) → k ≤ n → At x.cells i cell → IsThereAs cell t.generation k → IsThereAs (unretired d generation b n) t.generation k
  taken_stays d generation b n at cell t k le here there = (subst (λ (c : SchemeCell). IsThereAs c t.generation k) (one_at x.cells i cell (reachable generation b) here at) there, le)

  pub retired_stays : (d generation b n stamp r : ℕ) → At x.cells i (unretired d generation b n) → (cell : SchemeCell) (t : RefParts) (k : ℕ) → At x.cells i cell → IsThereAs cell t.generation k → IsThereAs (limbo d generation b n stamp r) t.generation k
  retired_stays d generation b n stamp r at cell t k here there = subst (λ (c : SchemeCell). IsThereAs c t.generation k) (one_at x.cells i cell (unretired d generation b n) here at) there

-- what was taken out at a number or later was so at an earlier one or later
as_sooner : (cell : SchemeCell) (generation k start : ℕ) → start ≤ k → IsThereAs cell generation k → IsThereAs cell generation start
as_sooner (reachable e b) generation k start le there = there
as_sooner (unretired d e b n) generation k start le there = (there.0, (let z = there.1 in omega arith))
as_sooner (limbo d e b n stamp r) generation k start le there = (there.0, (let z = there.1 in omega arith))
as_sooner cell generation k start le there = absurd there

pub there_sooner : (x : SchemeInput) (t : RefParts) (k start : ℕ) → start ≤ k → IsThere x t k → IsThere x t start
there_sooner x t k start le there = (there.0, there.1, there.2, as_sooner there.0 t.generation k start le there.3)
