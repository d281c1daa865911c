use Rattle.std.proofs.Common.{◌≡◌, drop}
use Rattle.bench_core.specs.Ending.{has_full}
use Rattle.bench_core.proofs.ending.has_full.Given as goal

abbrev pub invariant-loop-played : goal.invariant-loop-played
invariant-loop-played l = has_full (drop l.played-index l.callers) ≡ has_full l.callers
