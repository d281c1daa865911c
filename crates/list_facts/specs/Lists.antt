-- Sorted lists over word 3 of the records. Each root starts one list: a record with a key stands in the list whose root is the key modulo the number of roots.
use Rattle.std.specs.Prelude.{◌≡◌, ℕ, ◌+◌, ◌-◌, ◌%◌, ◌<◌, ◌≤◌, ◌⊎◌, List, Option, Some, None}
use Rattle.record_memory.specs.declared.books.Setup.{Setup}
use Rattle.row_words.specs.Refs.{RefParts}
use Rattle.row_words.specs.Packing.{kind_in}
use Rattle.record_rule.specs.Inputs.{ShapeCell, hidden, root, linked, out, ShapeInput}
use Rattle.record_rule.specs.Facts.{At, word_in, link_at, key_at, HasMark}
use Rattle.record_rule.specs.Laws.{LeadsTo}

-- where a root or a linked record stands: in which list, and at which rank there; a root has rank 0, and a key its successor
pub record Spot : Type 0 where
  pub home : ℕ
  pub rank : ℕ
  pub generation : ℕ
  pub body : List ℕ

abbrev pub spot : Setup → ℕ → ShapeCell → Option Spot
spot setup n hidden = None
spot setup n (root generation body m) = Some (record { home = n; rank = 0; generation = generation; body = body })
spot setup n (linked generation body m) = Some (record { home = key_at body % setup.roots; rank = key_at body + 1; generation = generation; body = body })
spot setup n (out generation body m k) = None

abbrev pub IsSpot : Setup → List ShapeCell → ℕ → Spot → Type 0
IsSpot setup cells i a = (cell : ShapeCell) × At cells i cell × (spot setup i cell ≡ Some a)

-- the reference names a record of the same list behind this one, at its generation
abbrev pub LeadsUp : Setup → List ShapeCell → Spot → RefParts → Type 0
LeadsUp setup cells a t = (b : Spot) × (0 < t.index) × IsSpot setup cells (t.index - 1) b × (b.generation ≡ t.generation) × (b.home ≡ a.home) × (a.rank < b.rank)

-- `flags` says which flags a link of a root or of a linked record may have
module _ (flags : ℕ → Type 0) where
  -- a root has no mark, a linked record has a key of kind 0, and a record that was taken out has a mark; no link has other flags
  abbrev pub IsSorted : ShapeCell → Type 0
  IsSorted hidden = Unit {0}
  IsSorted (root generation body m) = flags (link_at body 3).flags × ¬ HasMark (link_at body 3)
  IsSorted (linked generation body m) = flags (link_at body 3).flags × (kind_in (word_in body 4) ≡ 0)
  IsSorted (out generation body m n) = flags (link_at body 3).flags × HasMark (link_at body 3)

  pub record ListFits (setup : Setup) (x : ShapeInput) : Type 0 where
    -- each link leads up
    pub next : (i : ℕ) (a : Spot) (t : RefParts) → IsSpot setup x.cells i a → (link_at a.body 3).target ≡ Some t → LeadsUp setup x.cells a t
    -- a list has one record of a rank
    pub one : (i j : ℕ) (a b : Spot) → IsSpot setup x.cells i a → IsSpot setup x.cells j b → a.home ≡ b.home → a.rank ≡ b.rank → i ≡ j
    -- what stands behind a record comes no earlier than what its link leads to
    pub gap : (i j : ℕ) (a b : Spot) → IsSpot setup x.cells i a → IsSpot setup x.cells j b → a.home ≡ b.home → a.rank < b.rank
        → (t : RefParts) × (c : Spot) × ((link_at a.body 3).target ≡ Some t) × IsSpot setup x.cells (t.index - 1) c × (c.rank ≤ b.rank)
    -- the link of a record that was taken out leads to a linked one, or to one that was taken out later
    pub later : (i generation m n : ℕ) (body : List ℕ) (t : RefParts) → At x.cells i (out generation body m n) → (link_at body 3).target ≡ Some t → LeadsTo x.cells t ⊎ ((k : ℕ) × (n < k) × At x.taken_out k t)
    pub sorted : (i : ℕ) (cell : ShapeCell) → At x.cells i cell → IsSorted cell
