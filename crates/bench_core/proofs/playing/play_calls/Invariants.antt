use Rattle.std.proofs.Common.{◌≡◌, ◌+◌, ◌≤◌, length, drop, vec_len, vec_capacity}
use Rattle.bench_core.proofs.PlainRuns.{PlaysTo}
use Rattle.bench_core.proofs.playing.play_calls.Given as goal

abbrev pub invariant-loop-call : goal.invariant-loop-call
invariant-loop-call g l = record {
  plays : PlaysTo l.calls l.fn.set.keys l.fn.replies.items (drop l.call-index l.calls) l.set.keys l.replies.items l.set.room;
  room : l.set.room ≡ l.fn.set.room;
  count : vec_len l.replies ≡ length l.fn.replies.items + l.call-index;
  room_for_replies : length l.fn.replies.items + length l.calls ≤ vec_capacity l.replies;
  same_capacity : vec_capacity l.fn.replies ≤ vec_capacity l.replies;
}
