-- The list of the records that were taken out, in order: between two handings out of a record it is taken out once.
use Rattle.std.specs.Prelude.{◌≡◌, ℕ, ◌+◌, ◌-◌, ◌<◌, ◌≤◌, ◌⊎◌, List}
use Rattle.record_memory.specs.declared.books.Setup.{Setup}
use Rattle.row_words.specs.Refs.{RefParts, refer}
use Rattle.record_rule.specs.Inputs.{TakenCell, untaken, was_taken}
use Rattle.record_rule.specs.Facts.{At}

abbrev pub generation_of : TakenCell → ℕ
generation_of (untaken generation) = generation
generation_of (was_taken generation k) = generation

-- the n-th reference, with this generation, is one of the record's: an older one, or the one that stands for its own generation
abbrev pub IsTakenAs : TakenCell → ℕ → ℕ → Type 0
IsTakenAs (untaken generation) g n = g < generation
IsTakenAs (was_taken generation k) g n = (g < generation) ⊎ ((g ≡ generation) × (n ≡ k))

pub record TakenFits (setup : Setup) (takings : List TakenCell) (taken_out : List RefParts) : Type 0 where
  -- each reference is a record's
  pub each : (n : ℕ) (r : RefParts) → At taken_out n r → (0 < r.index) × (setup.first ≤ r.generation) × (cell : TakenCell) × At takings (r.index - 1) cell × IsTakenAs cell r.generation n
  -- each older generation of a record was taken out
  pub older : (i g : ℕ) (cell : TakenCell) → At takings i cell → setup.first ≤ g → g < generation_of cell → (n : ℕ) × At taken_out n (refer (i + 1) g)
  -- and so was its own, where it says so
  pub own : (i generation n : ℕ) → At takings i (was_taken generation n) → At taken_out n (refer (i + 1) generation)
  -- once
  pub once : (n m : ℕ) (r : RefParts) → At taken_out n r → At taken_out m r → n ≡ m
