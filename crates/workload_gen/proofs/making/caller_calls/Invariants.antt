use Rattle.std.proofs.Common.{◌≡◌, ◌-◌, ◌++◌}
use Rattle.workload_gen.specs.Generated.{calls_from, caller_calls}
use Rattle.workload_gen.proofs.making.caller_calls.Given as goal

abbrev pub invariant-loop-made : goal.invariant-loop-made
invariant-loop-made l =
    l.calls.items ++ calls_from l.plan l.caller (l.plan.calls - l.made) l.words ≡ caller_calls l.plan l.caller
