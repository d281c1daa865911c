use Rattle.std.proofs.Common.{◌≤◌, ◌-◌, List}
use Rattle.record_table.specs.Handles.{view}
use Rattle.record_pieces.specs.Events.{Event}
use Rattle.manager.specs.Callers.{AnswersNone}
use Rattle.manager.specs.Guards.{IsAtWork, DidAll}
use Rattle.set_calls.specs.Going.{IsSameGuard}
use Rattle.lazy_list.specs.Pieces.{Insertings}
use Rattle.list_calls.specs.Records.{OwnsHand}
use Rattle.lazy_list.proofs.inserting.insert.Given as goal

-- no try was answered, and the call has the record that they left
abbrev pub invariant-loop-answer : goal.invariant-loop-answer
invariant-loop-answer g l = record {
  at_work : IsAtWork l.guard;
  same : IsSameGuard l.fn.guard l.guard;
  answers : AnswersNone (view l.fn.guard.caller.now.pass) (view l.guard.caller.now.pass);
  within : l.hops ≤ l.budget;
  hand : OwnsHand (view l.guard.caller.now.pass) l.hand;
  did : (es : List Event) × Insertings l.root l.key l.hops l.hand es × DidAll l.fn.guard es l.guard;
}

abbrev pub decreases-loop-answer : goal.decreases-loop-answer
decreases-loop-answer g l = l.budget - l.hops
