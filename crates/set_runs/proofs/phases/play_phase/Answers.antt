use Rattle.std.proofs.Common.{subst, get_or}
use Rattle.set_runs.specs.Playing.{HasPlayed}
use Rattle.set_runs.proofs.phases.play_phase.Goals as goal

pub returns : goal.returns
returns g c = record {
  same_length = search;
  each = λ i d there.
      let k = (c.for_each_mut.ensures i d there).1 in
      let played : _ → _ → Type 0 = HasPlayed g.S.ConcurrentSet.has c.args.set.now c.args.workload.now.lists c.args.phase g.S.ConcurrentSet.view (g.S.ConcurrentSet.steps (g.S.ConcurrentSet.setup c.args.set.now)) c.args.budget in
      subst (λ x. played x (get_or c.for_each_mut.new.s i d)) k.argument_is (subst (λ y. played k.argument.now y) k.left k.call);
}
