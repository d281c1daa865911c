use Rattle.std.proofs.Common.{◌≡◌, length, sum_by, take}
use Rattle.set_model.specs.Machine.{insertions_in}
use Rattle.workload_text.specs.Limits.{joined}
use Rattle.bench_core.proofs.playing.insertions_of.Given as goal

abbrev pub invariant-loop-caller : goal.invariant-loop-caller
invariant-loop-caller l = record {
  last : l.caller-end ≡ length l.workload.lists;
  counted : l.total ≡ sum_by insertions_in (take l.caller (joined l.workload.lists));
}
