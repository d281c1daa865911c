-- How a run of the program ends. What it finds in its words and its source decides what it owes to its sink.
use Rattle.std.specs.Prelude.{◌≡◌, ◌≢◌, ℕ, ◌≤◌, ◌⊎◌, ◌||◌, Bool, true, false, List, [], ◌∷◌, length, Option, Some, None}
use Rattle.command_words.specs.Commands.{IsCommand}
use Rattle.command_words.specs.declared.command.Command.{Command}
use Rattle.command_words.specs.declared.command.Command.TheVariants as command
use Rattle.command_words.specs.declared.command.PlayWords.{PlayWords}
use Rattle.command_words.specs.declared.command.TrialWords.{TrialWords}
use Rattle.command_words.specs.declared.command.Workloads.{Workloads}
use Rattle.cover_facts.specs.Keeping.{none}
use Rattle.debra_facts.specs.Debra.{debra}
use Rattle.hazard_facts.specs.Pointers.{hazard}
use Rattle.hash_runs.specs.DebraRuns.{debra_manner}
use Rattle.hash_runs.specs.HazardRuns.{hazard_manner}
use Rattle.hash_runs.specs.IbrRuns.{ibr_manner}
use Rattle.hash_runs.specs.NoneRuns.{none_manner}
use Rattle.ibr_facts.specs.Keeping.{ibr}
use Rattle.lawful_pairs.specs.Table.{is_lawful}
use Rattle.lawful_pairs.specs.declared.Unlawful.{Unlawful}
use Rattle.outside.specs.Faults.{one_more}
use Rattle.paired_replies.specs.Pairs.{calls_of}
use Rattle.record_pieces.specs.Manners.{Manner}
use Rattle.record_rule.specs.Facts.{CoverFacts}
use Rattle.record_table.specs.declared.closing.Closed.{Closed}
use Rattle.report_text.specs.LineTexts.{checked_text, refusal_text}
use Rattle.report_text.specs.ReportText.{report_text}
use Rattle.report_text.specs.SummaryText.{summary_text}
use Rattle.report_text.specs.Writing.{Wrote, WrotePart}
use Rattle.report_text.specs.declared.refusal.Refusal.TheVariants as refusal
use Rattle.report_text.specs.declared.refusal.WorkloadRefusal.{WorkloadRefusal}
use Rattle.report_text.specs.declared.report.Played.{Played}
use Rattle.set_model.specs.declared.calls.Reply.{Reply}
use Rattle.set_model.specs.declared.calls.Reply.TheVariants.{Yes, No, Full}
use Rattle.set_model.specs.declared.names.ReclaimerName.{ReclaimerName}
use Rattle.set_model.specs.declared.names.ReclaimerName.TheVariants.{Nothing, Debra, Hazard, Ibr}
use Rattle.set_model.specs.declared.names.SetName.{SetName}
use Rattle.set_model.specs.declared.names.SetName.TheVariants.{Plain, Michael}
use Rattle.workload_gen.specs.Generated.{generated}
use Rattle.workload_gen.specs.declared.plan.GenPlan.{GenPlan}
use Rattle.workload_text.specs.Limits.{Plan, joined, plan_of}
use Rattle.workload_text.specs.Text.{IsTextOf, text_of}
use Rattle.bench_core.specs.declared.ending.Ended.{Ended}
use Rattle.bench_core.specs.declared.ending.Run.{Run}
use Rattle.bench_core.specs.declared.ending.Verdict.{Verdict}
use Rattle.bench_core.specs.declared.ending.Verdict.TheVariants as verdict
use Rattle.bench_core.specs.Plays.{IsPlainRun}
use Rattle.bench_core.specs.Reading.{GaveAll, GaveTooMany, GaveFew}
use Rattle.bench_core.specs.Settings.{played_as}
use Rattle.bench_core.specs.Sizes.{sizes_of, IsRefusedFor, IsPlanOf}
use Rattle.bench_core.specs.Tables.{IsHashRun}

-- some reply is full
abbrev pub is_full : Reply → Bool
is_full Yes = false
is_full No = false
is_full Full = true

abbrev pub any_full : List Reply → Bool
any_full [] = false
any_full (reply ∷ replies) = is_full reply || any_full replies

abbrev pub has_full : List Played → Bool
has_full [] = false
has_full (played ∷ callers) = any_full played.replies || has_full callers

-- the status of a run that was printed whole, by whether some reply is full
abbrev pub status_with : Bool → ℕ
status_with true = 5
status_with false = 0

abbrev pub status_of_run : Run → ℕ
status_of_run run = status_with (has_full run.report.callers)

-- the bytes are the text of no workload
abbrev pub IsNoWorkload : List ℕ → Type 0
IsNoWorkload bytes = (plan : Plan) → ¬ (IsTextOf bytes plan)

-- the bytes were read to the end, and are no workload, for this cause
pub record GaveNoWorkload {S : Type 0} (left : S → Option (List ℕ)) (before after : S) (cause : WorkloadRefusal) : Type 0 where
  pub bytes : List ℕ
  pub all : GaveAll left before after bytes
  pub few : length bytes ≤ 67108864
  pub no_workload : IsNoWorkload bytes
  pub refused : IsRefusedFor bytes cause

-- the bytes were read to the end, and are the text of this workload
pub record GaveWorkload {S : Type 0} (left : S → Option (List ℕ)) (before after : S) (plan : Plan) : Type 0 where
  pub bytes : List ℕ
  pub all : GaveAll left before after bytes
  pub few : length bytes ≤ 67108864
  pub text : IsTextOf bytes plan

-- The workload was played on a hash table, under the reclaimer with these facts and this manner, and the table was closed
abbrev pub IsHashPlay : CoverFacts → Manner → PlayWords → Plan → Run → Type 0
IsHashPlay c m chosen plan run = (closed : Closed) × (run.closed ≡ Some closed) × IsHashRun c m chosen plan.lists run.report closed

-- What was played, by the set and the reclaimer. A pair that joins adds its case.
abbrev pub IsPlayed : SetName → ReclaimerName → PlayWords → Plan → Run → Type 0
IsPlayed Plain Nothing chosen plan run = (run.closed ≡ None) × IsPlainRun plan run.report
IsPlayed Michael Nothing chosen plan run = IsHashPlay none none_manner chosen plan run
IsPlayed Michael Debra chosen plan run = IsHashPlay debra debra_manner chosen plan run
IsPlayed Michael Hazard chosen plan run = IsHashPlay hazard hazard_manner chosen plan run
IsPlayed Michael Ibr chosen plan run = IsHashPlay ibr ibr_manner chosen plan run
IsPlayed set reclaimer chosen plan run = ⊥

-- A run of the workload on the set and under the reclaimer that the words choose, with its report
pub record IsRun (chosen : PlayWords) (plan : Plan) (run : Run) : Type 0 where
  pub set_is : run.report.set ≡ chosen.set
  pub reclaimer_is : run.report.reclaimer ≡ chosen.reclaimer
  pub calls : calls_of run.report.callers ≡ joined plan.lists
  pub played : IsPlayed chosen.set chosen.reclaimer chosen plan run

-- the command names a set and a reclaimer
abbrev pub HasParts : Command → SetName → ReclaimerName → Type 0
HasParts (command.Play chosen) set reclaimer = (chosen.set ≡ set) × (chosen.reclaimer ≡ reclaimer)
HasParts command.Check set reclaimer = ⊥
HasParts (command.Generate chosen) set reclaimer = ⊥
HasParts (command.Trial chosen) set reclaimer = (chosen.set ≡ set) × (chosen.reclaimer ≡ reclaimer)

-- the command names no pair that isn't lawful
abbrev pub IsAllowed : Command → Type 0
IsAllowed chosen = (set : SetName) (reclaimer : ReclaimerName) → HasParts chosen set reclaimer → is_lawful set reclaimer ≡ true

-- the command reads a workload
abbrev pub Reads : Command → Type 0
Reads (command.Play chosen) = is_lawful chosen.set chosen.reclaimer ≡ true
Reads command.Check = Unit {0}
Reads (command.Generate chosen) = ⊥
Reads (command.Trial chosen) = ⊥

-- the command names this pair, which isn't lawful
abbrev pub NamesUnlawful : Command → Unlawful → Type 0
NamesUnlawful chosen pair = HasParts chosen pair.set pair.reclaimer × (is_lawful pair.set pair.reclaimer ≡ false)

-- the workload that words ask for is this one
abbrev pub IsMade : Workloads → Plan → Type 0
IsMade chosen plan = (sizes : GenPlan) × IsPlanOf chosen sizes × (plan ≡ plan_of (generated sizes))

-- what a verdict says of the source's faults: it met one only where it says so
abbrev pub Counts : {S : Type 0} → (S → ℕ) → S → S → Verdict → Type 0
Counts faults before after verdict.ReadFault = faults after ≡ one_more (faults before)
Counts faults before after found = faults after ≡ faults before

-- what a verdict says of a source that was read
abbrev pub FindsRead : {S : Type 0} → (S → Option (List ℕ)) → S → S → Verdict → Type 0
FindsRead left before after verdict.ReadFault = GaveFew left before after
FindsRead left before after verdict.TooLong = GaveTooMany left before after
FindsRead left before after (verdict.WorkloadRefused cause) = GaveNoWorkload left before after cause
FindsRead left before after verdict.OutOfMemory = GaveFew left before after
FindsRead left before after found = ⊥

-- what a verdict says of the source, before and after, at this command
abbrev pub FindsIn : {S : Type 0} → (S → Option (List ℕ)) → S → S → Command → Verdict → Type 0
FindsIn left before after chosen verdict.WordsRefused = ⊥
FindsIn left before after chosen (verdict.Unlawful pair) = NamesUnlawful chosen pair × (after ≡ before)
FindsIn left before after chosen verdict.ReadFault = Reads chosen × GaveFew left before after
FindsIn left before after chosen verdict.TooLong = Reads chosen × GaveTooMany left before after
FindsIn left before after chosen (verdict.WorkloadRefused cause) = Reads chosen × GaveNoWorkload left before after cause
FindsIn left before after chosen verdict.OutOfMemory = IsAllowed chosen × GaveFew left before after × (¬ (Reads chosen) → after ≡ before)
FindsIn left before after chosen (verdict.Checked sizes) = (chosen ≡ command.Check) × (plan : Plan) × GaveWorkload left before after plan × (sizes ≡ sizes_of plan)
FindsIn left before after chosen (verdict.Generated text) =
    (words : Workloads) × (chosen ≡ command.Generate words) × (after ≡ before) × (plan : Plan) × IsMade words plan × (text ≡ text_of plan)
FindsIn left before after chosen (verdict.Played run) =
    (words : PlayWords) × (chosen ≡ command.Play words) × (is_lawful words.set words.reclaimer ≡ true)
    × (plan : Plan) × GaveWorkload left before after plan × IsRun words plan run
FindsIn left before after chosen (verdict.Tried run) =
    (words : TrialWords) × (chosen ≡ command.Trial words) × (is_lawful words.set words.reclaimer ≡ true) × (after ≡ before)
    × (plan : Plan) × IsMade words.workload plan × IsRun (played_as words) plan run

-- what a verdict says at a command that reads nothing
abbrev pub FindsMade : Command → Verdict → Type 0
FindsMade chosen (verdict.Unlawful pair) = NamesUnlawful chosen pair
FindsMade chosen verdict.OutOfMemory = IsAllowed chosen
FindsMade chosen (verdict.Generated text) = (words : Workloads) × (chosen ≡ command.Generate words) × (plan : Plan) × IsMade words plan × (text ≡ text_of plan)
FindsMade chosen (verdict.Tried run) =
    (words : TrialWords) × (chosen ≡ command.Trial words) × (is_lawful words.set words.reclaimer ≡ true)
    × (plan : Plan) × IsMade words.workload plan × IsRun (played_as words) plan run
FindsMade chosen found = ⊥

-- the words name no command
abbrev pub AreNoCommand : List (List ℕ) → Type 0
AreNoCommand words = (chosen : Command) → ¬ (IsCommand words chosen)

-- what a verdict says of the words and the source; where the words are refused, nothing is read
abbrev pub Finds : {S : Type 0} → (S → Option (List ℕ)) → List (List ℕ) → S → S → Verdict → Type 0
Finds left words before after found =
    (AreNoCommand words × (found ≡ verdict.WordsRefused) × (after ≡ before)) ⊎ ((chosen : Command) × IsCommand words chosen × FindsIn left before after chosen found)

-- the status that a verdict owes, where no put fails
abbrev pub status_of : Verdict → ℕ
status_of verdict.WordsRefused = 2
status_of (verdict.Unlawful pair) = 4
status_of verdict.ReadFault = 6
status_of verdict.TooLong = 9
status_of (verdict.WorkloadRefused cause) = 3
status_of verdict.OutOfMemory = 8
status_of (verdict.Checked sizes) = 0
status_of (verdict.Generated text) = 0
status_of (verdict.Played run) = status_of_run run
status_of (verdict.Tried run) = status_of_run run

-- the text that it owes
abbrev pub output_of : Verdict → List ℕ
output_of verdict.WordsRefused = refusal_text refusal.Words
output_of (verdict.Unlawful pair) = refusal_text (refusal.Pair pair.set pair.reclaimer)
output_of verdict.ReadFault = []
output_of verdict.TooLong = refusal_text refusal.TooLong
output_of (verdict.WorkloadRefused cause) = refusal_text (refusal.Workload cause)
output_of verdict.OutOfMemory = []
output_of (verdict.Checked sizes) = checked_text sizes
output_of (verdict.Generated text) = text
output_of (verdict.Played run) = report_text run.report
output_of (verdict.Tried run) = summary_text run.report

-- a text that was made isn't empty
abbrev pub HasText : Verdict → Type 0
HasText (verdict.Generated text) = text ≢ []
HasText found = Unit {0}

-- the run that it has, if one was played
abbrev pub run_of : Verdict → Option Run
run_of verdict.WordsRefused = None
run_of (verdict.Unlawful pair) = None
run_of verdict.ReadFault = None
run_of verdict.TooLong = None
run_of (verdict.WorkloadRefused cause) = None
run_of verdict.OutOfMemory = None
run_of (verdict.Checked sizes) = None
run_of (verdict.Generated text) = None
run_of (verdict.Played run) = Some run
run_of (verdict.Tried run) = Some run

-- How a text and a status are told to a sink: all of the text, or a front of it up to the put that failed.
pub record Tells {K : Type 0} (got : K → Option (List ℕ)) (faults : K → ℕ) (before after : K) (text : List ℕ) (status : ℕ) (ended : Ended) : Type 0 where
  pub whole : ended.status ≢ 7 → (ended.status ≡ status) × Wrote got before after text × (faults after ≡ faults before)
  pub part : ended.status ≡ 7 → (text ≢ []) × WrotePart got before after text × (faults after ≡ one_more (faults before))
  -- where there is no text, the sink isn't touched
  pub silent : text ≡ [] → (ended.status ≡ status) × (after ≡ before)

-- how a verdict is told to a sink
pub record Concludes {K : Type 0} (got : K → Option (List ℕ)) (faults : K → ℕ) (before after : K) (found : Verdict) (ended : Ended) : Type 0 where
  pub run : ended.run ≡ run_of found
  pub tells : Tells got faults before after (output_of found) (status_of found) ended

-- the words and the source come to some verdict, and this is told to the sink
pub record Ends {S K : Type 0} (left : S → Option (List ℕ)) (source_faults : S → ℕ) (got : K → Option (List ℕ)) (sink_faults : K → ℕ)
    (words : List (List ℕ)) (source source' : S) (sink sink' : K) (ended : Ended) : Type 0 where
  pub found : Verdict
  pub finds : Finds left words source source' found
  pub counts : Counts source_faults source source' found
  pub concludes : Concludes got sink_faults sink sink' found ended

-- a command that reads comes to some verdict, and this is told to the sink
pub record EndsRead {S K : Type 0} (left : S → Option (List ℕ)) (source_faults : S → ℕ) (got : K → Option (List ℕ)) (sink_faults : K → ℕ)
    (chosen : Command) (source source' : S) (sink sink' : K) (ended : Ended) : Type 0 where
  pub found : Verdict
  pub finds : FindsIn left source source' chosen found
  pub counts : Counts source_faults source source' found
  pub concludes : Concludes got sink_faults sink sink' found ended

-- a command that reads nothing does so too
pub record EndsMade {K : Type 0} (got : K → Option (List ℕ)) (sink_faults : K → ℕ) (chosen : Command) (sink sink' : K) (ended : Ended) : Type 0 where
  pub found : Verdict
  pub finds : FindsMade chosen found
  pub concludes : Concludes got sink_faults sink sink' found ended
