-- The text of a workload: its lines, and how each is spelled.
use Rattle.std.specs.Prelude.{◌≡◌, ℕ, ◌+◌, List, [], ◌∷◌, ◌++◌, length, map, codes}
use Rattle.set_model.specs.declared.calls.Call.{Call}
use Rattle.text_lines.specs.Lines.{numbered, lines_text}
use Rattle.text_lines.specs.Calls.{call_text}
use Rattle.workload_text.specs.Limits.{Plan, IsWorkload}

-- a line of a workload
pub data Line : Type 0 where
  version_line : ℕ → Line
  callers_line : ℕ → Line
  caller_line : ℕ → Line
  call_line : Call → Line
  phase_line : Line
  end_line : Line

-- the bytes of a line, without its line feed
abbrev pub spelled : Line → List ℕ
spelled (version_line version) = numbered (codes "setbench") version
spelled (callers_line count) = numbered (codes "callers") count
spelled (caller_line caller) = numbered (codes "caller") caller
spelled (call_line call) = call_text call
spelled phase_line = codes "phase"
spelled end_line = codes "end"

abbrev pub spelled_lines : List Line → List ℕ
spelled_lines lines = lines_text (map spelled lines)

-- phases behind the first: the line `phase`, and then the phase's calls
abbrev pub later_lines : List (List Call) → List Line
later_lines [] = []
later_lines (calls ∷ phases) = phase_line ∷ (map call_line calls ++ later_lines phases)

-- the calls of a caller, with a line `phase` between two phases
abbrev pub phases_lines : List (List Call) → List Line
phases_lines [] = []
phases_lines (calls ∷ phases) = map call_line calls ++ later_lines phases

-- the lines of callers that are numbered from `first` on: each caller's number, and then its calls
abbrev pub callers_lines : ℕ → List (List (List Call)) → List Line
callers_lines first [] = []
callers_lines first (phases ∷ lists) = caller_line first ∷ (phases_lines phases ++ callers_lines (first + 1) lists)

-- all lines: the version, the number of callers, each caller from 0 on, and the end
abbrev pub workload_lines : Plan → List Line
workload_lines plan = version_line plan.version ∷ callers_line (length plan.lists) ∷ (callers_lines 0 plan.lists ++ end_line ∷ [])

-- the one text of a workload
abbrev pub text_of : Plan → List ℕ
text_of plan = spelled_lines (workload_lines plan)

-- the bytes are the text of this workload
abbrev pub IsTextOf : List ℕ → Plan → Type 0
IsTextOf bytes plan = IsWorkload plan × (bytes ≡ text_of plan)
