-- A caller of a table, as whoever plays calls on a set has it.
use Rattle.std.specs.Prelude.{Bool}
use Rattle.record_memory.specs.declared.books.View.{View}
use Rattle.record_table.specs.declared.table.Table.{Table}
use Rattle.record_table.specs.Closing.{IsWholePassOf}
use Rattle.manager.specs.declared.types.Caller.{Caller}
use Rattle.manager.specs.Callers.{IsResting}

-- it is a caller of this table that isn't inside an operation, and has absorbed no other
pub record IsWholeCallerOf {S R L : Type 0} (is_local : L → Bool → View → View → Type 0) (t : Table S R) (c : Caller S R L) : Type 0 where
  pub whole : IsWholePassOf t c.pass
  pub resting : IsResting is_local c
