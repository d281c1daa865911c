use Rattle.std.proofs.Common.{◌≡◌, length, map, take, ap, ◌∙◌, subst, arith}
use Rattle.std.proofs.Math.Seq.{take-length}
use Rattle.set_runs.specs.Totals.{AreTotalsOf}
use Rattle.set_runs.proofs.totals.total_counts.Goals as goal

pub returns : goal.returns
returns g c =
    let whole : c.loop-player.player-index ≡ length c.args.players.now = omega (arith, c.loop-player-test.false, c.loop-player.auto.player-index-end) in
    subst (λ l. AreTotalsOf c.loop-player.all (map (λ player. (g.S.ConcurrentSet.view player.caller).own) l)) (ap (λ n. take n c.args.players.now) whole ∙ take-length c.args.players.now) c.loop-player.invariant
