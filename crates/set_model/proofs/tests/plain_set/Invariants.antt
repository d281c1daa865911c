use Rattle.std.proofs.Common.{◌≡◌}
use Rattle.set_model.proofs.tests.plain_set.Given as goal

abbrev pub invariant-loop-call : goal.invariant-loop-call
invariant-loop-call g l = l.set.room ≡ 2
