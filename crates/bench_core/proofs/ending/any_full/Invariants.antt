use Rattle.std.proofs.Common.{◌≡◌, drop}
use Rattle.bench_core.specs.Ending.{any_full}
use Rattle.bench_core.proofs.ending.any_full.Given as goal

abbrev pub invariant-loop-reply : goal.invariant-loop-reply
invariant-loop-reply l = any_full (drop l.reply-index l.replies) ≡ any_full l.replies
