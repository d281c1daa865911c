use Rattle.std.proofs.Common.{◌≡◌, length, take, sum_by}
use Rattle.workload_text.specs.Limits.{lists_of}
use Rattle.workload_text.proofs.workload.total_of_all.Given as goal

abbrev pub invariant-loop-calls : goal.invariant-loop-calls
invariant-loop-calls l = l.total ≡ sum_by length (take l.calls-index (lists_of l.lists))
