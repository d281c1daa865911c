use Rattle.set_api.specs.Turns.{Repeats}
use Rattle.set_runs.proofs.players.play_call.Given as goal

abbrev pub invariant-loop : goal.invariant-loop
invariant-loop g l = record {
  can_next : (goal.iterator-loop g).can_next l.iterator';
  is_finite : (goal.iterator-loop g).is_finite l.iterator';
  has : g.S.ConcurrentSet.has l.set l.caller;
  repeats : Repeats (g.S.ConcurrentSet.steps (g.S.ConcurrentSet.setup l.set)) l.budget l.call (g.S.ConcurrentSet.view l.fn.caller) (g.S.ConcurrentSet.view l.caller);
}
