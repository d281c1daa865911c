use Rattle.std.proofs.Common.{◌≤◌, ◌-◌, List}
use Rattle.record_table.specs.Handles.{view}
use Rattle.record_pieces.specs.Events.{Event}
use Rattle.manager.specs.Callers.{AnswersNone}
use Rattle.manager.specs.Guards.{IsAtWork, DidAll}
use Rattle.set_calls.specs.Going.{IsSameGuard}
use Rattle.michael_list.specs.Pieces.{Removings}
use Rattle.michael_list.proofs.removing.remove.Given as goal

-- the tries so far failed, within the budget, and answered nothing
abbrev pub invariant-tries : goal.invariant-tries
invariant-tries g l = IsAtWork l.guard × IsSameGuard l.fn.guard l.guard × AnswersNone (view l.fn.guard.caller.now.pass) (view l.guard.caller.now.pass) × (l.hops ≤ l.budget) × ((es : List Event) × Removings l.root l.key l.hops es × DidAll l.fn.guard es l.guard)

abbrev pub decreases-tries : goal.decreases-tries
decreases-tries g l = l.budget - l.hops
