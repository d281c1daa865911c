use Rattle.set_runs.proofs.Whole.{seated_start}
use Rattle.set_runs.proofs.runs.play_set.Goals as goal

pub play_workload-requires-clause-start : goal.play_workload-requires-clause-start
play_workload-requires-clause-start g c κs within =
    seated_start g.S.ConcurrentSet.has c.args.set g.S.ConcurrentSet.view (g.S.ConcurrentSet.setup c.args.set) g.S.ConcurrentSet.cover.first c.args.workload.now.lists c.args.callers.items c.in_ok-seats.seats.players.items c.requires.count c.requires.callers c.in_ok-seats.ensures.players
