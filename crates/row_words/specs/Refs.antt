-- References and links as contracts see them, and their ranges.
use Rattle.std.specs.Prelude.{ℕ, ◌<◌, ◌^◌, Option}

-- the last generation and the last index of a table
abbrev pub LAST_GENERATION : ℕ
LAST_GENERATION = 1048575

-- a record by its index and generation
pub record RefParts : Type 0 where
  pub index : ℕ
  pub generation : ℕ

abbrev pub refer : ℕ → ℕ → RefParts
refer index generation = record { index = index; generation = generation }

-- flags, and the record that a link leads to
pub record LinkParts : Type 0 where
  pub flags : ℕ
  pub target : Option RefParts

abbrev pub IsGeneration : ℕ → Type 0
IsGeneration n = (0 < n) × (n < 2 ^ 20)

abbrev pub IsIndex : ℕ → Type 0
IsIndex n = (0 < n) × (n < 2 ^ 20)

abbrev pub AreFlags : ℕ → Type 0
AreFlags n = n < 2 ^ 4

-- the ranges of a reference
pub record IsRef (r : RefParts) : Type 0 where
  pub index : IsIndex r.index
  pub generation : IsGeneration r.generation
