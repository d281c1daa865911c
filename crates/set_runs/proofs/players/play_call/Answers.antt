use Rattle.set_api.specs.Turns.{Repeats}
use Rattle.set_runs.proofs.players.play_call.Goals as goal

pub loop-init : goal.loop-init
loop-init g c = record { can_next = search; is_finite = search; has = c.requires.has; repeats = Repeats.none }

pub loop-preserved : goal.loop-preserved
loop-preserved g c = record {
  can_next = search;
  is_finite = search;
  has = c.play.ensures.has;
  repeats = Repeats.again c.in-Again.hops c.loop.invariant.repeats (record { tells = c.in-Again.ensures.tells; steps_are = c.in-Again.ensures.steps; same = c.play.ensures.same });
}
