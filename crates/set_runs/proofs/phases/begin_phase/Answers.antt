use Rattle.std.proofs.Common.{refl, arith}
use Rattle.set_runs.proofs.Learning.{met_nobody}
use Rattle.set_runs.proofs.phases.begin_phase.Goals as goal

pub returns-else-phase-gt0 : goal.returns-else-phase-gt0
returns-else-phase-gt0 g c = (
  0,
  record {
    same_length = refl;
    each = λ i d there. met_nobody g.S.ConcurrentSet.has c.args.set.now g.S.ConcurrentSet.view _ (c.requires.has i d there) (c.requires.first (omega (arith, c.if-phase-gt0.false)) i d there);
  },
)
