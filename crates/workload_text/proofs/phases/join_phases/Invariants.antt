use Rattle.std.proofs.Common.{◌≡◌, ◌<◌, [], length, take, sum_by}
use Rattle.workload_text.specs.Limits.{lists_of}
use Rattle.workload_text.specs.Cuts.{AreCuts, cut_at}
use Rattle.workload_text.proofs.phases.join_phases.Given as goal

abbrev pub invariant-loop-i : goal.invariant-loop-i
invariant-loop-i l = record {
  none : l.i ≡ 0 → (l.cuts.items ≡ []) × (l.calls.items ≡ []);
  some : 0 < l.i → cut_at l.cuts.items l.calls.items ≡ take l.i (lists_of l.phases);
  cut : AreCuts 0 l.cuts.items (length l.calls.items);
  sum : length l.calls.items ≡ sum_by length (take l.i (lists_of l.phases));
}
