use Rattle.std.proofs.Common.{◌≡◌, length, ◌∷◌, take}
use Rattle.workload_text.specs.Text.{version_line, callers_line, callers_lines, spelled_lines}
use Rattle.workload_text.proofs.writing.write_workload.Given as goal

abbrev pub invariant-loop-caller : goal.invariant-loop-caller
invariant-loop-caller l = l.out.items ≡ spelled_lines (version_line l.workload.version ∷ callers_line (length l.workload.lists) ∷ callers_lines 0 (take l.caller l.workload.lists))
