use Rattle.std.proofs.Common.{sym, subst}
use Rattle.set_runs.specs.Runs.{AreAtStart}
use Rattle.set_runs.proofs.Whole.{at_start}
use Rattle.set_runs.proofs.runs.play_out.Goals as goal

pub play_phases-requires-clause-start : goal.play_phases-requires-clause-start
play_phases-requires-clause-start g c κs within =
    let s = g.S.ConcurrentSet in
    let set = c.args.set.now in
    let lists = c.args.workload.now.lists in
    at_start s.has set s.view (s.setup set) s.cover.first lists (s.steps (s.setup set)) c.args.budget c.deref_mut.result.now
    (subst (AreAtStart s.has set s.view (s.setup set) s.cover.first lists) (sym c.deref_mut.ensures.value) c.requires)
