use Rattle.std.proofs.Common.{take, map}
use Rattle.set_runs.specs.Totals.{AreTotalsOf}
use Rattle.set_runs.proofs.totals.total_counts.Given as goal

abbrev pub invariant-loop-player : goal.invariant-loop-player
invariant-loop-player g l = AreTotalsOf l.all (map (λ player. (g.S.ConcurrentSet.view player.caller).own) (take l.player-index l.players))
