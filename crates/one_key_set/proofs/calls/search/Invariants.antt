use Rattle.std.proofs.Common.{◌≡◌, ◌+◌, ℕ, List, None}
use Rattle.record_table.specs.Handles.{view}
use Rattle.record_pieces.specs.Events.{Event}
use Rattle.manager.specs.Callers.{AnswersNone}
use Rattle.manager.specs.Guards.{IsAtWork, DidAll}
use Rattle.set_calls.specs.Going.{IsSameGuard}
use Rattle.one_key_set.specs.Pieces.{Searches, Failures}
use Rattle.one_key_set.proofs.calls.search.Given as goal

-- no try was answered yet
abbrev pub invariant-loop-left : goal.invariant-loop-left
invariant-loop-left g l = record {
  at_work : IsAtWork l.guard;
  same : IsSameGuard l.fn.guard l.guard;
  answers : AnswersNone (view l.fn.guard.caller.now.pass) (view l.guard.caller.now.pass);
  did : (made : ℕ) × (es : List Event) × (made + l.left ≡ l.tries) × Failures (Searches l.key None) made es × DidAll l.fn.guard es l.guard;
}

abbrev pub decreases-loop-left : goal.decreases-loop-left
decreases-loop-left g l = l.left
