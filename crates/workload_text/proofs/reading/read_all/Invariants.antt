use Rattle.std.proofs.Common.{length}
use Rattle.workload_text.specs.Progress.{IsProgress}
use Rattle.workload_text.proofs.reading.read_all.Given as goal

abbrev pub invariant-loop-read : goal.invariant-loop-read
invariant-loop-read l = IsProgress l.bytes l.progress l.rest

abbrev pub decreases-loop-read : goal.decreases-loop-read
decreases-loop-read l = length l.rest
