use Rattle.std.proofs.Common.{◌≡◌, ◌+◌, ◌≤◌, ◌++◌, length, map, vec_capacity}
use Rattle.std.specs.Vec.Iter.{into_iter_items}
use Rattle.set_runs.proofs.seats.leave_all.Given as goal

abbrev pub invariant-loop-player : goal.invariant-loop-player
invariant-loop-player g l = record {
  can_next : (goal.iterator-loop-player g).can_next l.player-iterator;
  is_finite : (goal.iterator-loop-player g).is_finite l.player-iterator;
  callers : l.callers.items ++ map (λ p. p.caller) (into_iter_items l.player-iterator) ≡ map (λ p. p.caller) l.fn.players.items;
  replies : l.replies.items ++ map (λ p. p.replies) (into_iter_items l.player-iterator) ≡ map (λ p. p.replies) l.fn.players.items;
  callers_room : length l.callers.items + length (into_iter_items l.player-iterator) ≤ vec_capacity l.callers;
  replies_room : length l.replies.items + length (into_iter_items l.player-iterator) ≤ vec_capacity l.replies;
}
