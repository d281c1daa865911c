-- The lines behind the calls of a phase.
use Rattle.std.specs.Prelude.{◌+◌}
use Rattle.workload_text.specs.declared.seen.Seen.{Seen}
use Rattle.workload_text.specs.declared.turns.Turn.{Turn}
use Rattle.workload_text.specs.declared.turns.Turn.TheVariants.{Phase, Caller, End}
use Rattle.workload_text.specs.Text.{Line, call_line, caller_line, phase_line, end_line}

abbrev pub line_of : Seen → Turn → Line
line_of seen Phase = phase_line
line_of seen Caller = caller_line (seen.caller + 1)
line_of seen End = end_line

abbrev pub IsNoCall : Line → Type 0
IsNoCall (call_line call) = ⊥
IsNoCall line = Unit {0}
