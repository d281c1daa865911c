-- What the clauses of the whole program say of words, of what was read, and of statuses.
use Rattle.std.specs.Prelude.{◌≡◌, ℕ, ◌⊎◌, List, Option, Some, None, sum_by}
use Rattle.command_words.specs.Commands.{IsCommand}
use Rattle.command_words.specs.declared.command.Command.{Command}
use Rattle.command_words.specs.declared.command.Command.TheVariants as command
use Rattle.command_words.specs.declared.command.PlayWords.{PlayWords}
use Rattle.command_words.specs.declared.command.TrialWords.{TrialWords}
use Rattle.lawful_pairs.specs.declared.Unlawful.{Unlawful}
use Rattle.paired_replies.specs.Pairs.{calls_of}
use Rattle.report_text.specs.ReportText.{report_text}
use Rattle.report_text.specs.SummaryText.{summary_text}
use Rattle.report_text.specs.declared.refusal.WorkloadRefusal.{WorkloadRefusal}
use Rattle.set_model.specs.Machine.{insertions_in}
use Rattle.workload_text.specs.Limits.{Plan}
use Rattle.workload_text.specs.Text.{IsTextOf}
use Rattle.bench_core.specs.declared.ending.Run.{Run}
use Rattle.bench_core.specs.Ending.{GaveNoWorkload, GaveWorkload, IsAllowed, IsMade, IsRun, NamesUnlawful, Reads}
use Rattle.bench_core.specs.Settings.{played_as}
use Rattle.bench_core.specs.Tables.{HasEnough}

-- the words name a command that reads a workload
abbrev pub AreRead : List (List ℕ) → Type 0
AreRead words = (chosen : Command) × IsCommand words chosen × Reads chosen

-- the words name a command that reads nothing, be it since its pair isn't lawful
abbrev pub AreNotRead : List (List ℕ) → Type 0
AreNotRead words = (chosen : Command) × IsCommand words chosen × ¬ (Reads chosen)

-- the words name a command, and no pair that isn't lawful
abbrev pub AreAllowed : List (List ℕ) → Type 0
AreAllowed words = (chosen : Command) × IsCommand words chosen × IsAllowed chosen

-- the words name a command with a pair that isn't lawful
abbrev pub AreUnlawful : List (List ℕ) → Type 0
AreUnlawful words = (chosen : Command) × IsCommand words chosen × (pair : Unlawful) × NamesUnlawful chosen pair

-- the words name this pair, and it isn't lawful
abbrev pub NamesPair : List (List ℕ) → Unlawful → Type 0
NamesPair words pair = (chosen : Command) × IsCommand words chosen × NamesUnlawful chosen pair

-- the words are those of `play`, or of `trial`
abbrev pub ArePlayed : List (List ℕ) → Type 0
ArePlayed words = ((chosen : PlayWords) × IsCommand words (command.Play chosen)) ⊎ ((chosen : TrialWords) × IsCommand words (command.Trial chosen))

-- what a command that plays chooses of the set and its table
abbrev pub choices_of : Command → Option PlayWords
choices_of (command.Play chosen) = Some chosen
choices_of command.Check = None
choices_of (command.Generate chosen) = None
choices_of (command.Trial chosen) = Some (played_as chosen)

-- The words choose a record for each root and for each insertion of these callers, or leave it to the program how many
-- there are, as those of `trial` do
pub record LeaveEnough (words : List (List ℕ)) (run : Run) : Type 0 where
  pub command : Command
  pub named : IsCommand words command
  pub chosen : PlayWords
  pub chooses : choices_of command ≡ Some chosen
  pub enough : HasEnough chosen (sum_by insertions_in (calls_of run.report.callers))

-- the bytes were read to the end, and are a workload
abbrev pub GaveSomeWorkload : {S : Type 0} → (S → Option (List ℕ)) → S → S → Type 0
GaveSomeWorkload left before after = (plan : Plan) × GaveWorkload left before after plan

-- the source holds the text of a workload, and nothing else
abbrev pub HoldsWorkload : {S : Type 0} → (S → Option (List ℕ)) → S → Type 0
HoldsWorkload left source = (bytes : List ℕ) × (left source ≡ Some bytes) × (plan : Plan) × IsTextOf bytes plan

-- the bytes were read to the end, and are no workload
abbrev pub GaveRefused : {S : Type 0} → (S → Option (List ℕ)) → S → S → Type 0
GaveRefused left before after = (cause : WorkloadRefusal) × GaveNoWorkload left before after cause

-- all was done
abbrev pub IsDone : ℕ → Type 0
IsDone status = (status ≡ 0) ⊎ (status ≡ 5)

-- nothing is written with this status
abbrev pub IsQuiet : ℕ → Type 0
IsQuiet status = (status ≡ 6) ⊎ (status ≡ 8)

-- a fault or want of memory stopped the run
abbrev pub IsStopped : ℕ → Type 0
IsStopped status = IsQuiet status ⊎ (status ≡ 7)

-- the workload that was played: of `play` the one that was read, of `trial` the one that was made
abbrev pub WasGiven : {S : Type 0} → (S → Option (List ℕ)) → S → S → List (List ℕ) → Plan → Type 0
WasGiven left before after words plan = ((chosen : PlayWords) × IsCommand words (command.Play chosen) × GaveWorkload left before after plan)
    ⊎ ((chosen : TrialWords) × IsCommand words (command.Trial chosen) × IsMade chosen.workload plan)

-- What was played and what its text is: of `play` the workload that was read and the report, of `trial` the workload
-- that was made and the summary.
pub record IsPlayOf {S : Type 0} (left : S → Option (List ℕ)) (before after : S) (words : List (List ℕ)) (run : Run) (text : List ℕ) : Type 0 where
  pub chosen : PlayWords
  pub named : IsCommand words (command.Play chosen)
  pub plan : Plan
  pub gave : GaveWorkload left before after plan
  pub played : IsRun chosen plan run
  pub report : text ≡ report_text run.report

pub record IsTrialOf {S : Type 0} (before after : S) (words : List (List ℕ)) (run : Run) (text : List ℕ) : Type 0 where
  pub chosen : TrialWords
  pub named : IsCommand words (command.Trial chosen)
  pub same : after ≡ before
  pub plan : Plan
  pub made : IsMade chosen.workload plan
  pub played : IsRun (played_as chosen) plan run
  pub summary : text ≡ summary_text run.report

abbrev pub IsRunOf : {S : Type 0} → (S → Option (List ℕ)) → S → S → List (List ℕ) → Run → List ℕ → Type 0
IsRunOf left before after words run text = IsPlayOf left before after words run text ⊎ IsTrialOf before after words run text
