use Rattle.std.proofs.Common.{All}
use Rattle.record_table.specs.Closing.{AreAllPasses}
use Rattle.manager.specs.Callers.{IsResting}
use Rattle.manager.specs.Made.{passes_of}
use Rattle.reclaim_none.specs.Starting.{IsLocal}
use Rattle.sum_tests.proofs.turns.play_in_turn.Given as goal

-- all callers are there, and none is inside an operation
abbrev pub invariant-loop-call : goal.invariant-loop-call
invariant-loop-call l = record {
  can_next : (goal.iterator-loop-call).can_next l.call-iterator;
  finite : (goal.iterator-loop-call).is_finite l.call-iterator;
  passes : AreAllPasses l.list.manager.table (passes_of l.callers.items);
  resting : All (IsResting IsLocal) l.callers.items;
}
