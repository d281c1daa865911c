use Rattle.std.proofs.Common.{◌≡◌, ℕ, ◌+◌, ◌-◌, ◌≤◌, List}
use Rattle.record_pieces.specs.Events.{Event}
use Rattle.manager.specs.Guards.{IsAtWork, DidAll}
use Rattle.set_calls.specs.Going.{GoesOn}
use Rattle.list_calls.specs.Standing.{rank, StandsBefore}
use Rattle.lazy_list.specs.Walks.{Walks}
use Rattle.lazy_list.proofs.walking.find.Given as goal

-- the walk came to before this node by these hops
abbrev pub invariant-loop-hops : goal.invariant-loop-hops
invariant-loop-hops g l = record {
  at_work : IsAtWork l.guard;
  on : GoesOn l.fn.guard l.guard;
  within : l.hops ≤ l.budget;
  before : StandsBefore l.guard.caller.now.pass l.root l.key l.before;
  walked : (made : ℕ) × (es : List Event) × (l.hops ≡ l.fn.hops + made) × Walks l.key l.root made l.before (rank l.guard.caller.now.pass l.before) es × DidAll l.fn.guard es l.guard;
}

abbrev pub decreases-loop-hops : goal.decreases-loop-hops
decreases-loop-hops g l = l.budget - l.hops
