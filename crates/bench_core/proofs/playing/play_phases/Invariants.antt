use Rattle.std.proofs.Common.{◌≡◌, ◌+◌, length}
use Rattle.workload_text.specs.Limits.{phase_lines}
use Rattle.bench_core.proofs.PlayOrder.{rest_at, rest_in}
use Rattle.bench_core.proofs.ToldCallers.{RunsTo}
use Rattle.bench_core.proofs.playing.play_phases.Given as goal

abbrev pub invariant-loop-phase : goal.invariant-loop-phase
invariant-loop-phase g l = record {
  last : l.phase-end ≡ phase_lines l.workload.lists + 1;
  runs : RunsTo l.workload.lists (rest_at l.workload.lists l.phase) l.set.keys l.set.room l.replies;
}

abbrev pub invariant-loop-caller : goal.invariant-loop-caller
invariant-loop-caller g l = record {
  last : l.callers ≡ length l.workload.lists;
  runs : RunsTo l.workload.lists (rest_in l.workload.lists l.phase l.caller) l.set.keys l.set.room l.replies;
}
