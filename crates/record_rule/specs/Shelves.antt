-- The shelves of the pool: what each shelf word says of the records.
use Rattle.std.specs.Prelude.{◌≡◌, ◌≢◌, ℕ, ◌+◌, ◌-◌, ◌<◌, ◌⊎◌, List, [], ◌∷◌, length, AllPairs, Option, Some, None, slice_index_or}
use Rattle.record_memory.specs.declared.books.Place.{Place}
use Rattle.record_memory.specs.declared.books.Place.TheVariants.{Undrawn, Root, Linked, Shelved, Of}
use Rattle.row_words.specs.Refs.{RefParts}
use Rattle.row_words.specs.Packing.{link_in, ref_in}
use Rattle.record_rule.specs.Records.{Record}
use Rattle.record_rule.specs.Facts.{At}

-- a record as the shelves see it: on a shelf, with its generation and the record that its chain word leads to
pub data PoolCell : Type 0 where
  off : PoolCell
  on : ℕ → ℕ → Option RefParts → PoolCell

abbrev pub pool_at : Place → Record → PoolCell
pool_at Undrawn r = off
pool_at Root r = off
pool_at Linked r = off
pool_at (Shelved k) r = on k r.generation (link_in (slice_index_or r.row 1 0)).target
pool_at (Of c s) r = off

abbrev pub pool_cell : Record → PoolCell
pool_cell r = pool_at r.place r

-- from the head on, the chain words of records on shelf k lead to just these records in this order, and end
abbrev pub ChainOn : List PoolCell → ℕ → Option RefParts → List RefParts → Type 0
ChainOn cells k head [] = head ≡ None
ChainOn cells k head (r ∷ rs) = (head ≡ Some r) × (0 < r.index) × (next : Option RefParts) × At cells (r.index - 1) (on k r.generation next) × ChainOn cells k next rs

-- one of these references is to the record with the index i + 1
abbrev pub IsNamed : ℕ → List RefParts → Type 0
IsNamed i refs = (n : ℕ) × (r : RefParts) × At refs n r × (r.index ≡ i + 1)

-- the shelf has a chain of 32 records
pub record HasChain (cells : List PoolCell) (k : ℕ) (head : Option RefParts) : Type 0 where
  pub refs : List RefParts
  pub leads : ChainOn cells k head refs
  pub many : length refs ≡ 32
  pub distinct : AllPairs (λ a b. a.index ≢ b.index) refs
  -- and no other record is on it
  pub all : (i generation : ℕ) (next : Option RefParts) → At cells i (on k generation next) → IsNamed i refs

-- no record is on the shelf
abbrev pub IsBare : List PoolCell → ℕ → Type 0
IsBare cells k = (i generation : ℕ) (next : Option RefParts) → ¬ At cells i (on k generation next)

-- the word of a shelf is 0 where no record is on it, or the reference of the first record of its chain
abbrev pub ShelfFits : List PoolCell → ℕ → ℕ → Type 0
ShelfFits cells k value = ((value ≡ 0) × IsBare cells k) ⊎ HasChain cells k (ref_in value)

-- so it is of all sixteen, and records are on no others
pub record ShelvesFit (cells : List PoolCell) (shelves : List ℕ) : Type 0 where
  pub many : length shelves ≡ 16
  pub each : (k : ℕ) → k < 16 → ShelfFits cells k (slice_index_or shelves k 0)
  pub few : (i k generation : ℕ) (next : Option RefParts) → At cells i (on k generation next) → k < 16
