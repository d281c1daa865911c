use Rattle.std.proofs.Common.{◌≡◌, ◌++◌, map, take}
use Rattle.workload_text.specs.Text.{call_line, spelled_lines}
use Rattle.workload_text.proofs.writing.write_calls.Given as goal

abbrev pub invariant-loop-call : goal.invariant-loop-call
invariant-loop-call l = l.out.items ≡ l.initial.out.items ++ spelled_lines (map call_line (take l.call-index l.calls))
