use Rattle.workload_text.specs.Progress.{AreRead}
use Rattle.workload_text.proofs.progress.calls_at.Given as goal

abbrev pub invariant-loop-count : goal.invariant-loop-count
invariant-loop-count l = AreRead l.fn.calls.items l.calls.items l.bytes l.count l.rest
