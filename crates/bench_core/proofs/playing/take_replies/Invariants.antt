use Rattle.std.proofs.Common.{◌≡◌, ℕ, ◌≤◌, Some, [], length, get_or, slice_get, vec_capacity}
use Rattle.std.specs.Global.{Vec}
use Rattle.set_model.specs.declared.calls.Reply.{Reply}
use Rattle.workload_text.specs.Limits.{joined}
use Rattle.bench_core.proofs.playing.take_replies.Given as goal

abbrev pub invariant-loop-caller : goal.invariant-loop-caller
invariant-loop-caller l = record {
  last : l.caller-end ≡ length l.workload.lists;
  count : length l.replies.items ≡ l.caller;
  room : (caller : ℕ) (own : Vec Reply) → slice_get l.replies.items caller ≡ Some own → (own.items ≡ []) × (length (get_or (joined l.workload.lists) caller []) ≤ vec_capacity own);
}
