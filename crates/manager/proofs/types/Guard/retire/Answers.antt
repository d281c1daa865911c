use Rattle.std.proofs.Common.{arith}
use Rattle.manager.proofs.types.Guard.retire.Goals as goal

pub returns-clause-did : goal.returns-clause-did
returns-clause-did g c = let e = c.put_away.ensures in record { acts = (e.does, e.stock); hand = omega (arith, e.hand); retires = omega (arith, e.retired) }
