-- The callers of a set.
use Rattle.std.specs.Prelude.{◌≡◌, ℕ, ◌<◌, List, All, length, slice_index_or}
use Rattle.record_memory.specs.declared.books.Guard.{Guard}
use Rattle.record_memory.specs.declared.books.Setup.{Setup}
use Rattle.record_memory.specs.declared.books.View.{View}
use Rattle.record_table.specs.Made.{IsFresh}

-- These are the callers of a set that was just made, in order of number: none of them made a step
pub record AreFreshCallers {C : Type 0} (has : C → Type 0) (view : C → View) (setup : Setup) (first : Guard) (callers : List C) : Type 0 where
  pub all : length callers ≡ setup.callers
  pub has_each : All has callers
  pub fresh : (i : ℕ) (d : C) → i < length callers → IsFresh setup first i (view (slice_index_or callers i d))
