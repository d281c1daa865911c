use Rattle.std.proofs.Common.{arith}
use Rattle.manager.proofs.KeepLocks.{makes_locks}
use Rattle.manager.proofs.types.Guard.give_back.Goals as goal

pub returns-clause-did : goal.returns-clause-did
returns-clause-did g c = let e = c.set_spare.ensures in record { acts = ((e.made.0, e.made.1, e.made.2.appended), e.stock); hand = omega (arith, e.hand); retires = omega (arith, e.made.2.retired) }

pub returns-clause-locks : goal.returns-clause-locks
returns-clause-locks g c = let m = c.set_spare.ensures.made in makes_locks _ _ _ m.2
