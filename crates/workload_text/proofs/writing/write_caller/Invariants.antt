use Rattle.std.proofs.Common.{◌≡◌, ◌+◌, List, Some, ◌∷◌, ◌++◌, slice_get, take}
use Rattle.set_model.specs.declared.calls.Call.{Call}
use Rattle.workload_text.specs.Text.{caller_line, phases_lines, spelled_lines}
use Rattle.workload_text.proofs.writing.write_caller.Given as goal

abbrev pub invariant-loop-phase : goal.invariant-loop-phase
invariant-loop-phase l = (phases : List (List Call)) → slice_get l.workload.lists l.caller ≡ Some phases → l.out.items ≡ l.fn.out.items ++ spelled_lines (caller_line l.caller ∷ phases_lines (take (l.phase + 1) phases))
