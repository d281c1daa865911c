-- The text of a trial's summary.
use Rattle.std.specs.Prelude.{ℕ, ◌+◌, List, [], ◌∷◌, ◌++◌, Bool, true, false, ◌&&◌, cond, sum_by, codes}
use Rattle.set_model.specs.declared.calls.Call.{Call}
use Rattle.set_model.specs.declared.calls.Call.TheVariants.{Insert, Remove, Search}
use Rattle.set_model.specs.declared.calls.Reply.{Reply}
use Rattle.set_model.specs.declared.calls.Reply.TheVariants.{Yes, No, Full}
use Rattle.text_lines.specs.Lines.{numbered, lines_text}
use Rattle.report_text.specs.declared.report.Played.{Played}
use Rattle.report_text.specs.declared.report.Report.{Report}
use Rattle.report_text.specs.declared.summary_printing.Kind.{Kind}
use Rattle.report_text.specs.declared.summary_printing.Kind.TheVariants.{Insertion, Removal, Lookup}
use Rattle.text_lines.specs.Names.{set_word, reclaimer_word}
use Rattle.report_text.specs.ReportText.{named, sizes_text, size_text}

abbrev pub is_yes : Reply → Bool
is_yes Yes = true
is_yes No = false
is_yes Full = false

abbrev pub is_of : Kind → Call → Bool
is_of Insertion (Insert key) = true
is_of Insertion (Remove key) = false
is_of Insertion (Search key) = false
is_of Removal (Insert key) = false
is_of Removal (Remove key) = true
is_of Removal (Search key) = false
is_of Lookup (Insert key) = false
is_of Lookup (Remove key) = false
is_of Lookup (Search key) = true

-- how many calls of this kind were answered yes
abbrev pub yes_among : Kind → List Call → List Reply → ℕ
yes_among kind [] replies = 0
yes_among kind (call ∷ calls) [] = 0
yes_among kind (call ∷ calls) (reply ∷ replies) = cond (is_of kind call && is_yes reply) 1 0 + yes_among kind calls replies

-- the same, of all callers
abbrev pub yes_in : Kind → List Played → ℕ
yes_in kind callers = sum_by (λ played. yes_among kind played.calls played.replies) callers

-- the first line: the parts and the sizes
abbrev pub trial_text : Report → List ℕ
trial_text report = named (codes "trial") (set_word report.set) ++ 32 ∷ reclaimer_word report.reclaimer ++ 32 ∷ sizes_text report.callers

-- the second line: how many insertions, removals and searches were answered yes
abbrev pub tally_text : List Played → List ℕ
tally_text callers = numbered (codes "inserted") (yes_in Insertion callers) ++ 32 ∷ numbered (codes "removed") (yes_in Removal callers)
    ++ 32 ∷ numbered (codes "found") (yes_in Lookup callers)

abbrev pub summary_lines : Report → List (List ℕ)
summary_lines report = trial_text report ∷ tally_text report.callers ∷ size_text report ∷ []

-- the text of a trial's summary
abbrev pub summary_text : Report → List ℕ
summary_text report = lines_text (summary_lines report)
