-- The text of a report.
use Rattle.std.specs.Prelude.{ℕ, ◌+◌, List, [], ◌∷◌, ◌++◌, length, sum_by, codes}
use Rattle.set_model.specs.declared.calls.Call.{Call}
use Rattle.set_model.specs.declared.calls.Counts.{Counts}
use Rattle.set_model.specs.declared.calls.Reply.{Reply}
use Rattle.set_model.specs.declared.calls.Reply.TheVariants.{Yes, No, Full}
use Rattle.text_lines.specs.Lines.{numbered, lines_text}
use Rattle.text_lines.specs.Calls.{call_text}
use Rattle.text_lines.specs.Names.{set_word, reclaimer_word}
use Rattle.report_text.specs.declared.report.Played.{Played}
use Rattle.report_text.specs.declared.report.Report.{Report}

abbrev pub reply_text : Reply → List ℕ
reply_text Yes = codes "yes"
reply_text No = codes "no"
reply_text Full = codes "full"

-- a word and a text, a blank between them
abbrev pub named : List ℕ → List ℕ → List ℕ
named word text = word ++ 32 ∷ text

-- how many calls there are, of all callers
abbrev pub calls_in : List Played → ℕ
calls_in callers = sum_by (λ played. length played.calls) callers

-- the number of callers and the number of calls
abbrev pub sizes_text : List Played → List ℕ
sizes_text callers = numbered (codes "callers") (length callers) ++ 32 ∷ numbered (codes "calls") (calls_in callers)

-- the first line: the parts and the sizes
abbrev pub head_text : Report → List ℕ
head_text report = named (codes "set") (set_word report.set) ++ 32 ∷ named (codes "reclaimer") (reclaimer_word report.reclaimer)
    ++ 32 ∷ sizes_text report.callers

-- a call and its reply
abbrev pub answered_text : Call → Reply → List ℕ
answered_text call reply = named (call_text call) (reply_text reply)

-- each call with its reply
abbrev pub answered_lines : List Call → List Reply → List (List ℕ)
answered_lines [] replies = []
answered_lines (call ∷ calls) [] = []
answered_lines (call ∷ calls) (reply ∷ replies) = answered_text call reply ∷ answered_lines calls replies

-- the lines of one caller: its number, and then its calls with their replies
abbrev pub played_lines : ℕ → Played → List (List ℕ)
played_lines caller played = numbered (codes "caller") caller ∷ answered_lines played.calls played.replies

-- the lines of callers that are numbered from `first` on
abbrev pub callers_lines : ℕ → List Played → List (List ℕ)
callers_lines first [] = []
callers_lines first (played ∷ callers) = played_lines first played ++ callers_lines (first + 1) callers

-- the last line but one: the number of keys and their sum
abbrev pub size_text : Report → List ℕ
size_text report = numbered (codes "size") report.size ++ 32 ∷ numbered (codes "sum") report.sum

-- the last line: what became of the records
abbrev pub records_text : Counts → List ℕ
records_text counts = numbered (codes "records drawn") counts.drawn ++ 32 ∷ numbered (codes "reused") counts.reused
    ++ 32 ∷ numbered (codes "retired") counts.retired ++ 32 ∷ numbered (codes "freed") counts.freed
    ++ 32 ∷ numbered (codes "limbo") counts.limbo ++ 32 ∷ numbered (codes "free") counts.free
    ++ 32 ∷ numbered (codes "spare") counts.spare ++ 32 ∷ numbered (codes "spent") counts.spent

abbrev pub report_lines : Report → List (List ℕ)
report_lines report = head_text report ∷ callers_lines 0 report.callers ++ size_text report ∷ records_text report.counts ∷ []

-- the text of a report
abbrev pub report_text : Report → List ℕ
report_text report = lines_text (report_lines report)
