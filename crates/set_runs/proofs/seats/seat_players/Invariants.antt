use Rattle.std.proofs.Common.{◌≡◌, ℕ, ◌<◌, ◌++◌, length, map, get_or}
use Rattle.std.specs.Vec.Iter.{into_iter_items}
use Rattle.set_runs.specs.Playing.{IsSeated}
use Rattle.set_runs.specs.declared.players.Player.{Player}
use Rattle.set_runs.proofs.seats.seat_players.Given as goal

abbrev pub invariant-loop-caller : goal.invariant-loop-caller
invariant-loop-caller g l = record {
  can_next : (goal.iterator-loop-caller g).can_next l.caller-iterator;
  is_finite : (goal.iterator-loop-caller g).is_finite l.caller-iterator;
  callers_are : map (λ p. p.caller) l.players.items ++ into_iter_items l.caller-iterator ≡ l.fn.callers.items;
  each : (i : ℕ) (d : Player g.row.C.Denot) → i < length l.players.items → IsSeated l.workload.lists i (get_or l.players.items i d);
}
