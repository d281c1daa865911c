-- The texts of one line: what `check` found, and why a run was refused.
use Rattle.std.specs.Prelude.{ℕ, List, [], ◌∷◌, ◌++◌, Option, Some, None, codes}
use Rattle.text_lines.specs.Lines.{line, numbered}
use Rattle.report_text.specs.declared.checked.Checked.{Checked}
use Rattle.report_text.specs.declared.refusal.Refusal.{Refusal}
use Rattle.report_text.specs.declared.refusal.Refusal.TheVariants.{Words, Workload, Pair, TooLong}
use Rattle.report_text.specs.declared.refusal.WorkloadRefusal.{WorkloadRefusal}
use Rattle.report_text.specs.declared.refusal.WorkloadRefusal.TheVariants.{Header, Callers, BadLine, KeyRange, NoEnd, TooManyCalls}
use Rattle.text_lines.specs.Names.{set_word, reclaimer_word}

-- the number of phases, where the workload's text tells one
abbrev pub phases_text : Option ℕ → List ℕ
phases_text None = []
phases_text (Some phases) = 32 ∷ numbered (codes "phases") phases

-- what `check` tells of a workload: its callers and its calls, and its phases
abbrev pub checked_text : Checked → List ℕ
checked_text checked = line (numbered (codes "ok callers") checked.callers ++ 32 ∷ numbered (codes "calls") checked.calls ++ phases_text checked.phases)

-- a line's number, and what is wrong with the line
abbrev pub wrong_line : ℕ → List ℕ → List ℕ
wrong_line number what = numbered (codes "line") number ++ codes ": " ++ what

abbrev pub reason_text : WorkloadRefusal → List ℕ
reason_text Header = wrong_line 1 (codes "header")
reason_text Callers = wrong_line 2 (codes "callers")
reason_text (BadLine number) = wrong_line number (codes "bad line")
reason_text (KeyRange number) = wrong_line number (codes "key out of range")
reason_text NoEnd = codes "no end"
reason_text (TooManyCalls number) = wrong_line number (codes "too many calls")

-- what was refused, and why
abbrev pub cause_text : Refusal → List ℕ
cause_text Words = codes "words refused"
cause_text (Workload reason) = codes "workload refused: " ++ reason_text reason
cause_text (Pair set reclaimer) = set_word set ++ codes " under " ++ reclaimer_word reclaimer ++ codes " is not lawful"
cause_text TooLong = codes "workload too long"

-- the line of a refusal
abbrev pub refusal_text : Refusal → List ℕ
refusal_text refusal = line (codes "setbench: " ++ cause_text refusal)
