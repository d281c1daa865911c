use Rattle.std.proofs.Common.{arith}
use Rattle.bench_core.proofs.PlayOrder.{insertions-called}
use Rattle.bench_core.proofs.playing.take_memory.Goals as goal

pub returns-clause-room : goal.returns-clause-room
returns-clause-room c = omega (arith, c.in_ok-set.ensures.room, c.insertions_of.ensures.count, insertions-called c.args.workload.now c.callers.ensures.limits)
