-- What a caller holds is there at the generation by which it holds it, and is what the caller knows of it.
use Rattle.std.specs.Prelude.{◌≡◌, ℕ, ◌+◌, ◌-◌, ◌<◌, ◌≤◌, ◌⊎◌, List, [], length, Some}
use Rattle.record_memory.specs.declared.books.Guard.{Guard}
use Rattle.record_memory.specs.declared.books.Note.{Note}
use Rattle.row_words.specs.Refs.{RefParts, refer}
use Rattle.record_rule.specs.Inputs.{ShapeCell, linked, out}
use Rattle.record_rule.specs.Facts.{At, ShapeFacts, FitsNote}
use Rattle.record_rule.specs.Laws.{LeadsTo}

module _ (s : ShapeFacts) where
  -- a held record is linked, or was taken out behind the guard's start
  pub data HoldFits (cells : List ShapeCell) (start : ℕ) : RefParts → Note → Type 0 where
    while_linked : (i generation marked : ℕ) (body : List ℕ) (note : Note) → At cells i (linked generation body marked) → FitsNote s note body → HoldFits cells start (refer (i + 1) generation) note
    while_out : (i generation marked n : ℕ) (body : List ℕ) (note : Note) → At cells i (out generation body marked n) → start ≤ n → FitsNote s note body → HoldFits cells start (refer (i + 1) generation) note

  -- the record is linked or taken out, with this body
  abbrev pub IsThereWith : List ShapeCell → RefParts → List ℕ → Type 0
  IsThereWith cells r body = (m : ℕ) × (At cells (r.index - 1) (linked r.generation body m) ⊎ ((n : ℕ) × At cells (r.index - 1) (out r.generation body m n)))

  -- what is known of a record that waits to be held: its note fits it wherever it still is at its generation
  pub record WaitFits (cells : List ShapeCell) (taken_out : List RefParts) (start : ℕ) (r : RefParts) (note : Note) : Type 0 where
    pub indexed : 0 < r.index
    -- it was linked, so none is linked anew at its generation
    pub was_linked : LeadsTo cells r ⊎ ((k : ℕ) × (start ≤ k) × At taken_out k r)
    pub fits : (body : List ℕ) → IsThereWith cells r body → FitsNote s note body
    pub keyed : (n : ℕ) × At note.words 1 (Some n)
    -- the set keeps nothing of it yet
    pub bare : note.kept ≡ []

  pub record HeldFits (places : ℕ) (cells : List ShapeCell) (taken_out : List RefParts) (g : Guard) (notes : List Note) : Type 0 where
    pub many : length g.holds ≡ places
    pub noted : length notes ≡ places
    -- the guard didn't start in the future
    pub start : g.start_taken_out ≤ length taken_out
    pub holds : (p : ℕ) (r : RefParts) (note : Note) → At g.holds p (Some r) → At notes p note → HoldFits cells g.start_taken_out r note
    -- the key of what is held is known
    pub keyed : (p : ℕ) (r : RefParts) (note : Note) → At g.holds p (Some r) → At notes p note → (n : ℕ) × At note.words 1 (Some n)
    -- what waits has a place that holds nothing
    pub waits : (p : ℕ) (r : RefParts) (note : Note) → g.pending ≡ Some (p, r) → At notes p note → ((u : RefParts) → ¬ At g.holds p (Some u)) × WaitFits cells taken_out g.start_taken_out r note
