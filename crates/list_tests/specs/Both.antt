-- Two callers, the only ones of their table.
use Rattle.std.specs.Prelude.{[], ◌∷◌}
use Rattle.record_table.specs.declared.table.Table.{Table}
use Rattle.record_table.specs.Closing.{AreAllPasses}
use Rattle.manager.specs.declared.types.Caller.{Caller}
use Rattle.reclaim_none.specs.Starting.{IsLocal}
use Rattle.manager.specs.Callers.{IsResting}

-- neither is inside an operation
pub record AreBoth {S R L : Type 0} (t : Table S R) (zero one : Caller S R L) : Type 0 where
  pub all : AreAllPasses t (zero.pass ∷ one.pass ∷ [])
  pub zero_rests : IsResting IsLocal zero
  pub one_rests : IsResting IsLocal one
