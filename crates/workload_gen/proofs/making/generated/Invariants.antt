use Rattle.std.proofs.Common.{◌≡◌, ◌-◌, ◌++◌}
use Rattle.workload_text.specs.Limits.{lists_of}
use Rattle.workload_gen.specs.Generated.{callers_from, generated}
use Rattle.workload_gen.proofs.making.generated.Given as goal

abbrev pub invariant-loop-caller : goal.invariant-loop-caller
invariant-loop-caller l =
    lists_of l.lists.items ++ callers_from l.plan l.caller (l.plan.callers - l.caller) ≡ generated l.plan
