use Rattle.std.proofs.Common.{◌≡◌, ◌+◌, ◌≤◌, ◌++◌, List, length, take, vec_len, vec_capacity}
use Rattle.set_model.specs.declared.calls.Reply.{Reply}
use Rattle.set_api.specs.Turns.{Turns}
use Rattle.set_runs.proofs.players.play_calls.Given as goal

abbrev pub invariant-loop-call : goal.invariant-loop-call
invariant-loop-call g l = record {
  has : g.S.ConcurrentSet.has l.set l.player.caller;
  turns : (replies : List Reply) × (l.player.replies.items ≡ l.fn.player.replies.items ++ replies) × Turns (g.S.ConcurrentSet.steps (g.S.ConcurrentSet.setup l.set)) l.budget (take l.call-index l.calls) replies (g.S.ConcurrentSet.view l.fn.player.caller) (g.S.ConcurrentSet.view l.player.caller);
  same_number : l.player.number ≡ l.fn.player.number;
  count : vec_len l.player.replies ≡ length l.fn.player.replies.items + l.call-index;
  room : length l.fn.player.replies.items + length l.calls ≤ vec_capacity l.player.replies;
  same_capacity : vec_capacity l.fn.player.replies ≤ vec_capacity l.player.replies;
}
