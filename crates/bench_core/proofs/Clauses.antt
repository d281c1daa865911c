-- What follows, fact by fact, from how a run ends.
use Rattle.std.proofs.Common.{◌≡◌, ◌≢◌, ℕ, ◌⊎◌, inl, inr, List, [], ◌∷◌, length, sum_by, Option, Some, None, IsSome, Bool, true, false, refl, sym, ap, ◌∙◌, subst, arith}
use Rattle.std.proofs.lemmas.Bool.{false≢true}
use Rattle.std.proofs.lemmas.Bool.Decides.{eqb_tells}
use Rattle.command_words.proofs.Commands.{one_command}
use Rattle.command_words.specs.Commands.{IsCommand, Names}
use Rattle.command_words.specs.declared.command.Command.{Command}
use Rattle.command_words.specs.declared.command.Command.TheVariants as command
use Rattle.command_words.specs.declared.command.PlayWords.{PlayWords}
use Rattle.command_words.specs.declared.command.TrialWords.{TrialWords}
use Rattle.command_words.specs.declared.command.Workloads.{Workloads}
use Rattle.lawful_pairs.specs.Table.{is_lawful}
use Rattle.lawful_pairs.specs.declared.Unlawful.{Unlawful}
use Rattle.outside.specs.Bytes.{with_front}
use Rattle.outside.specs.Faults.{Rose, one_more}
use Rattle.paired_replies.specs.Pairs.{calls_of}
use Rattle.record_table.specs.declared.closing.Closed.{Closed}
use Rattle.report_text.proofs.WritingLemmas.{one_more-rises}
use Rattle.report_text.specs.LineTexts.{checked_text, refusal_text}
use Rattle.report_text.specs.ReportText.{report_text}
use Rattle.report_text.specs.SummaryText.{summary_text}
use Rattle.report_text.specs.Writing.{Wrote, WrotePart}
use Rattle.report_text.specs.declared.refusal.Refusal.TheVariants as refusal
use Rattle.report_text.specs.declared.refusal.WorkloadRefusal.{WorkloadRefusal}
use Rattle.run_facts.specs.Unreclaimed.{IsUnreclaimed}
use Rattle.set_model.specs.declared.calls.Call.{Call}
use Rattle.set_model.specs.declared.names.AllocatorName.TheVariants.{Bump}
use Rattle.set_model.specs.declared.names.ReclaimerName.TheVariants.{Nothing}
use Rattle.set_model.specs.declared.names.ReclaimerName.{ReclaimerName}
use Rattle.set_model.specs.declared.names.SetName.{SetName}
use Rattle.set_model.specs.declared.names.SetName.TheVariants.{Plain}
use Rattle.set_model.specs.Machine.{insertions_in}
use Rattle.table_reports.specs.Reports.{TellsCounts, TellsKeys, RepliesAddUp}
use Rattle.workload_text.proofs.Held.{some_is}
use Rattle.workload_text.proofs.TextLength.{length-text_of-le}
use Rattle.workload_text.specs.Limits.{Plan, joined}
use Rattle.workload_text.specs.Text.{text_of}
use Rattle.bench_core.specs.declared.ending.Ended.{Ended}
use Rattle.bench_core.specs.declared.ending.Run.{Run}
use Rattle.bench_core.specs.declared.ending.Verdict.{Verdict}
use Rattle.bench_core.specs.declared.ending.Verdict.TheVariants as verdict
use Rattle.bench_core.specs.Clauses.{AreAllowed, AreNotRead, AreRead, AreUnlawful, ArePlayed, GaveRefused, GaveSomeWorkload, HoldsWorkload, IsDone, IsPlayOf, IsQuiet, IsRunOf, IsStopped, IsTrialOf, LeaveEnough, NamesPair, WasGiven, choices_of}
use Rattle.bench_core.specs.Reading.{Gave, GaveFew, GaveTooMany}
use Rattle.bench_core.proofs.ReadingLemmas.{Gave-same, GaveAll-is, Gave-length-le}
use Rattle.bench_core.specs.Sizes.{sizes_of}
use Rattle.bench_core.specs.Ending.{AreNoCommand, Counts, Ends, Finds, FindsIn, FindsMade, GaveNoWorkload, GaveWorkload, HasParts, HasText, IsAllowed, IsMade, IsPlayed, NamesUnlawful, Reads, Tells, has_full, status_with, output_of, run_of, status_of, status_of_run}
use Rattle.bench_core.specs.Plays.{AreAlone}
use Rattle.bench_core.specs.Settings.{played_as}
use Rattle.bench_core.specs.Tables.{HasEnough, HasOneHistory, all_insertions}
use Rattle.bench_core.proofs.Alone.{trial_alone}
use Rattle.bench_core.proofs.Enough.{plain_enough}
use Rattle.bench_core.proofs.NeverFull.{run-not_full}
use Rattle.bench_core.proofs.PlayedPairs.{frees_none, has_table, on_table, table_history}
use Rattle.bench_core.proofs.Telling.{status_of_run-is}
use Rattle.bench_core.proofs.Verdicts.{is_WordsRefused, is_Unlawful, is_ReadFault, is_TooLong, is_WorkloadRefused, is_OutOfMemory}

pub Reads-allowed : (chosen : Command) → Reads chosen → IsAllowed chosen
Reads-allowed (command.Play words) lawful = λ set reclaimer parts.
    subst (λ (r : ReclaimerName). is_lawful set r ≡ true) parts.1 (subst (λ (s : SetName). is_lawful s words.reclaimer ≡ true) parts.0 lawful)
Reads-allowed command.Check reads = λ set reclaimer parts. absurd parts
Reads-allowed (command.Generate words) reads = absurd reads
Reads-allowed (command.Trial words) reads = absurd reads

-- a command whose pair isn't lawful isn't allowed, and reads nothing
allowed_not_unlawful : (chosen : Command) (pair : Unlawful) → IsAllowed chosen → NamesUnlawful chosen pair → ⊥
allowed_not_unlawful chosen pair allowed names = false≢true (sym names.1 ∙ allowed pair.set pair.reclaimer names.0)

with_front-nil : (o : Option (List ℕ)) → o ≡ with_front [] o
with_front-nil None = refl
with_front-nil (Some told) = refl

few-same : {S : Type 0} (left : S → Option (List ℕ)) (before after : S) → after ≡ before → GaveFew left before after
few-same left before after same = ([], rw same (with_front-nil (left before)), omega arith)

abbrev play_words : SetName → ReclaimerName → PlayWords
play_words set reclaimer = record { set = set; reclaimer = reclaimer; allocator = Bump; buckets = 64; records = None }

not_shared : (words : List (List ℕ)) (chosen : TrialWords) → Names words (command.Trial chosen) → chosen.workload.shared ≡ false
not_shared [] chosen names = absurd names
not_shared (first ∷ words) chosen names = names.2.not_shared

full_by : (full : Bool) → status_with full ≡ 5 → full ≡ true
full_by true is = refl
full_by false is = absurd (omega arith)

module _ {S K : Type 0} {left : S → Option (List ℕ)} {source_faults : S → ℕ} {got : K → Option (List ℕ)} {sink_faults : K → ℕ}
    {words : List (List ℕ)} {source source' : S} {sink sink' : K} {ended : Ended} (e : Ends left source_faults got sink_faults words source source' sink sink' ended) where
  abbrev tells : Tells got sink_faults sink sink' (output_of e.found) (status_of e.found) ended
  tells = e.concludes.tells

  -- a status other than that of a write fault is the verdict's
  status_is : (status : ℕ) → status ≢ 7 → ended.status ≡ status → status_of e.found ≡ status
  status_is status good is = sym (tells.whole (λ bad. good (sym is ∙ bad))).0 ∙ is

  -- what a verdict other than that of the words says
  inside : (found : Verdict) → e.found ≡ found → found ≢ verdict.WordsRefused → (chosen : Command) × IsCommand words chosen × FindsIn left source source' chosen found
  inside found is other = elim e.finds [
    | inl no_command ↦ absurd (other (sym is ∙ no_command.1))
    | inr there ↦ (there.0, there.1, subst (λ (v : Verdict). FindsIn left source source' there.0 v) is there.2)
  ]

  -- where the words are no command, the verdict says so
  refused : AreNoCommand words → (e.found ≡ verdict.WordsRefused) × (source' ≡ source)
  refused none = elim e.finds [ inl no_command ↦ (no_command.1, no_command.2) | inr there ↦ absurd (none there.0 there.1) ]

  -- and where they are one, it is of this command
  of_command : (chosen : Command) → IsCommand words chosen → FindsIn left source source' chosen e.found
  of_command chosen named = elim e.finds [
    | inl no_command ↦ absurd (no_command.0 chosen named)
    | inr there ↦ subst (λ (c : Command). FindsIn left source source' c e.found) (one_command words there.0 chosen there.1 named) there.2
  ]

  words_none : e.found ≡ verdict.WordsRefused → AreNoCommand words
  words_none is = elim e.finds [
    | inl no_command ↦ no_command.0
    | inr there ↦ absurd (subst (λ (v : Verdict). FindsIn left source source' there.0 v) is there.2)
  ]

  pub words_refused : (ended.status ≡ 2 → AreNoCommand words × (ended.status ≢ 7)) × (AreNoCommand words × (ended.status ≢ 7) → ended.status ≡ 2)
  words_refused = (
    λ is. (words_none (is_WordsRefused e.found (status_is 2 (λ same. omega arith) is)), λ bad. omega arith),
    λ why. (tells.whole why.1).0 ∙ ap status_of (refused why.0).0,
  )

  pub words_unread : AreNoCommand words → source' ≡ source
  words_unread none = (refused none).1

  unlawful_found : (chosen : Command) (pair : Unlawful) (found : Verdict) → NamesUnlawful chosen pair → FindsIn left source source' chosen found → status_of found ≡ 4
  unlawful_found chosen pair verdict.WordsRefused names finds = absurd finds
  unlawful_found chosen pair (verdict.Unlawful other) names finds = refl
  unlawful_found chosen pair verdict.ReadFault names finds = absurd (allowed_not_unlawful chosen pair (Reads-allowed chosen finds.0) names)
  unlawful_found chosen pair verdict.TooLong names finds = absurd (allowed_not_unlawful chosen pair (Reads-allowed chosen finds.0) names)
  unlawful_found chosen pair (verdict.WorkloadRefused cause) names finds = absurd (allowed_not_unlawful chosen pair (Reads-allowed chosen finds.0) names)
  unlawful_found chosen pair verdict.OutOfMemory names finds = absurd (allowed_not_unlawful chosen pair finds.0 names)
  unlawful_found chosen pair (verdict.Checked sizes) names finds = absurd (allowed_not_unlawful chosen pair (Reads-allowed chosen (subst Reads (sym finds.0) tt)) names)
  unlawful_found chosen pair (verdict.Generated text) names finds = absurd (subst (λ (c : Command). HasParts c pair.set pair.reclaimer) finds.1 names.0)
  unlawful_found chosen pair (verdict.Played run) names finds = absurd (allowed_not_unlawful chosen pair (Reads-allowed chosen (subst Reads (sym finds.1) finds.2)) names)
  unlawful_found chosen pair (verdict.Tried run) names finds =
      let parts = subst (λ (c : Command). HasParts c pair.set pair.reclaimer) finds.1 names.0 in
      let lawful = subst (λ (r : ReclaimerName). is_lawful pair.set r ≡ true) parts.1 (subst (λ (s : SetName). is_lawful s finds.0.reclaimer ≡ true) parts.0 finds.2) in
      absurd (false≢true (sym names.1 ∙ lawful))

  pub unlawful : (ended.status ≡ 4 → AreUnlawful words × (ended.status ≢ 7)) × (AreUnlawful words × (ended.status ≢ 7) → ended.status ≡ 4)
  unlawful = (
    λ is. let found = is_Unlawful e.found (status_is 4 (λ same. omega arith) is) in
        let there = inside (verdict.Unlawful found.0) found.1 (λ same. cc) in
        ((there.0, there.1, found.0, there.2.0), λ bad. omega arith),
    λ why. (tells.whole why.1).0 ∙ unlawful_found why.0.0 why.0.2 e.found why.0.3 (of_command why.0.0 why.0.1),
  )

  unread_found : (chosen : Command) (found : Verdict) → ¬ (Reads chosen) → FindsIn left source source' chosen found → source' ≡ source
  unread_found chosen verdict.WordsRefused none finds = absurd finds
  unread_found chosen (verdict.Unlawful other) none finds = finds.1
  unread_found chosen verdict.ReadFault none finds = absurd (none finds.0)
  unread_found chosen verdict.TooLong none finds = absurd (none finds.0)
  unread_found chosen (verdict.WorkloadRefused cause) none finds = absurd (none finds.0)
  unread_found chosen verdict.OutOfMemory none finds = finds.2 none
  unread_found chosen (verdict.Checked sizes) none finds = absurd (none (subst Reads (sym finds.0) tt))
  unread_found chosen (verdict.Generated text) none finds = finds.2
  unread_found chosen (verdict.Played run) none finds = absurd (none (subst Reads (sym finds.1) finds.2))
  unread_found chosen (verdict.Tried run) none finds = finds.3

  pub unread : AreNotRead words → source' ≡ source
  unread why = unread_found why.0 e.found why.2 (of_command why.0 why.1)

  pub read_fault : ended.status ≡ 6 → AreRead words × (source_faults source' ≡ one_more (source_faults source))
  read_fault is =
      let found = is_ReadFault e.found (status_is 6 (λ same. omega arith) is) in
      let there = inside verdict.ReadFault found (λ same. cc) in
      ((there.0, there.1, there.2.0), subst (λ (v : Verdict). Counts source_faults source source' v) found e.counts)

  -- a read fault ends the run with its own status, since nothing is printed
  fault_status : e.found ≡ verdict.ReadFault → ended.status ≡ 6
  fault_status is = (tells.silent (ap output_of is)).0 ∙ ap status_of is

  kept : (found : Verdict) → e.found ≡ found → ended.status ≢ 6 → Counts source_faults source source' found → source_faults source' ≡ source_faults source
  kept verdict.WordsRefused is other counts = counts
  kept (verdict.Unlawful pair) is other counts = counts
  kept verdict.ReadFault is other counts = absurd (other (fault_status is))
  kept verdict.TooLong is other counts = counts
  kept (verdict.WorkloadRefused cause) is other counts = counts
  kept verdict.OutOfMemory is other counts = counts
  kept (verdict.Checked sizes) is other counts = counts
  kept (verdict.Generated text) is other counts = counts
  kept (verdict.Played run) is other counts = counts
  kept (verdict.Tried run) is other counts = counts

  pub no_read_fault : ended.status ≢ 6 → source_faults source' ≡ source_faults source
  no_read_fault other = kept e.found refl other e.counts

  pub write_fault : ended.status ≡ 7 → sink_faults sink' ≡ one_more (sink_faults sink)
  write_fault is = (tells.part is).2

  pub no_write_fault : ended.status ≢ 7 → sink_faults sink' ≡ sink_faults sink
  no_write_fault good = (tells.whole good).2

  pub out_of_memory : ended.status ≡ 8 → AreAllowed words
  out_of_memory is =
      let there = inside verdict.OutOfMemory (is_OutOfMemory e.found (status_is 8 (λ same. omega arith) is)) (λ same. cc) in
      (there.0, there.1, there.2.0)

  pub quiet : IsQuiet ended.status → sink' ≡ sink
  quiet status = elim status [
    | inl is ↦ (tells.silent (ap output_of (is_ReadFault e.found (status_is 6 (λ same. omega arith) is)))).1
    | inr is ↦ (tells.silent (ap output_of (is_OutOfMemory e.found (status_is 8 (λ same. omega arith) is)))).1
  ]

  pub part : ended.status ≡ 7 → (found : Verdict) × Finds left words source source' found × (ended.run ≡ run_of found) × (output_of found ≢ []) × WrotePart got sink sink' (output_of found)
  part is = (e.found, e.finds, e.concludes.run, (tells.part is).0, (tells.part is).1)

  -- with a status other than that of a write fault, what is owed is written
  wrote : (found : Verdict) → e.found ≡ found → ended.status ≢ 7 → Wrote got sink sink' (output_of found)
  wrote found is good = subst (λ (v : Verdict). Wrote got sink sink' (output_of v)) is (tells.whole good).1

  pub words_line : ended.status ≡ 2 → Wrote got sink sink' (refusal_text refusal.Words)
  words_line is = wrote verdict.WordsRefused (is_WordsRefused e.found (status_is 2 (λ same. omega arith) is)) (λ bad. omega arith)

  pub length_line : ended.status ≡ 9 → Wrote got sink sink' (refusal_text refusal.TooLong)
  length_line is = wrote verdict.TooLong (is_TooLong e.found (status_is 9 (λ same. omega arith) is)) (λ bad. omega arith)

  pub pair_line : ended.status ≡ 4 → (pair : Unlawful) × NamesPair words pair × Wrote got sink sink' (refusal_text (refusal.Pair pair.set pair.reclaimer))
  pair_line is =
      let found = is_Unlawful e.found (status_is 4 (λ same. omega arith) is) in
      let there = inside (verdict.Unlawful found.0) found.1 (λ same. cc) in
      (found.0, (there.0, there.1, there.2.0), wrote (verdict.Unlawful found.0) found.1 (λ bad. omega arith))

  pub workload_line : ended.status ≡ 3 → (cause : WorkloadRefusal) × GaveNoWorkload left source source' cause × Wrote got sink sink' (refusal_text (refusal.Workload cause))
  workload_line is =
      let found = is_WorkloadRefused e.found (status_is 3 (λ same. omega arith) is) in
      let there = inside (verdict.WorkloadRefused found.0) found.1 (λ same. cc) in
      (found.0, there.2.1, wrote (verdict.WorkloadRefused found.0) found.1 (λ bad. omega arith))

  checked_found : (found : Verdict) → status_of found ≡ 0 → FindsIn left source source' command.Check found → (plan : Plan) × GaveWorkload left source source' plan × (output_of found ≡ checked_text (sizes_of plan))
  checked_found verdict.WordsRefused is finds = absurd finds
  checked_found (verdict.Unlawful other) is finds = absurd (omega arith)
  checked_found verdict.ReadFault is finds = absurd (omega arith)
  checked_found verdict.TooLong is finds = absurd (omega arith)
  checked_found (verdict.WorkloadRefused cause) is finds = absurd (omega arith)
  checked_found verdict.OutOfMemory is finds = absurd (omega arith)
  checked_found (verdict.Checked sizes) is finds = (finds.1, finds.2, ap checked_text finds.3)
  checked_found (verdict.Generated text) is finds = let same = finds.1 in cc
  checked_found (verdict.Played run) is finds = let same = finds.1 in cc
  checked_found (verdict.Tried run) is finds = let same = finds.1 in cc

  pub checked : IsCommand words command.Check → ended.status ≡ 0 → (plan : Plan) × GaveWorkload left source source' plan × Wrote got sink sink' (checked_text (sizes_of plan))
  checked named is =
      let there = checked_found e.found (status_is 0 (λ same. omega arith) is) (of_command command.Check named) in
      (there.0, there.1, subst (λ (text : List ℕ). Wrote got sink sink' text) there.2 (wrote e.found refl (λ bad. omega arith)))

  generated_found : (chosen : Workloads) (found : Verdict) → status_of found ≡ 0 → FindsIn left source source' (command.Generate chosen) found → (plan : Plan) × IsMade chosen plan × (output_of found ≡ text_of plan)
  generated_found chosen verdict.WordsRefused is finds = absurd finds
  generated_found chosen (verdict.Unlawful other) is finds = absurd (omega arith)
  generated_found chosen verdict.ReadFault is finds = absurd (omega arith)
  generated_found chosen verdict.TooLong is finds = absurd (omega arith)
  generated_found chosen (verdict.WorkloadRefused cause) is finds = absurd (omega arith)
  generated_found chosen verdict.OutOfMemory is finds = absurd (omega arith)
  generated_found chosen (verdict.Checked sizes) is finds = let same = finds.0 in cc
  generated_found chosen (verdict.Generated text) is finds =
      let same : finds.0 ≡ chosen = let all = finds.1 in cc in
      (finds.3, subst (λ (w : Workloads). IsMade w finds.3) same finds.4, finds.5)
  generated_found chosen (verdict.Played run) is finds = let same = finds.1 in cc
  generated_found chosen (verdict.Tried run) is finds = let same = finds.1 in cc

  pub generated : (chosen : Workloads) → IsCommand words (command.Generate chosen) → ended.status ≡ 0 → (plan : Plan) × IsMade chosen plan × Wrote got sink sink' (text_of plan)
  generated chosen named is =
      let there = generated_found chosen e.found (status_is 0 (λ same. omega arith) is) (of_command (command.Generate chosen) named) in
      (there.0, there.1, subst (λ (text : List ℕ). Wrote got sink sink' text) there.2 (wrote e.found refl (λ bad. omega arith)))

  -- what a verdict with a run says
  run_found : (found : Verdict) (run : Run) → run_of found ≡ Some run → Finds left words source source' found
      → (status_of found ≡ status_of_run run) × IsRunOf left source source' words run (output_of found)
  run_found verdict.WordsRefused run is finds = cc
  run_found (verdict.Unlawful other) run is finds = cc
  run_found verdict.ReadFault run is finds = cc
  run_found verdict.TooLong run is finds = cc
  run_found (verdict.WorkloadRefused cause) run is finds = cc
  run_found verdict.OutOfMemory run is finds = cc
  run_found (verdict.Checked sizes) run is finds = cc
  run_found (verdict.Generated text) run is finds = cc
  run_found (verdict.Played played) run is finds =
      let same : played ≡ run = cc in
      elim finds [
        | inl no_command ↦ absurd (let other = no_command.1 in cc)
        | inr there ↦ (
          ap status_of_run same,
          inl (subst (λ (r : Run). IsPlayOf left source source' words r (report_text played.report)) same (record {
            chosen = there.2.0;
            named = subst (λ (c : Command). IsCommand words c) there.2.1 there.1;
            plan = there.2.3;
            gave = there.2.4;
            played = there.2.5;
            report = refl;
          })),
        )
      ]
  run_found (verdict.Tried played) run is finds =
      let same : played ≡ run = cc in
      elim finds [
        | inl no_command ↦ absurd (let other = no_command.1 in cc)
        | inr there ↦ (
          ap status_of_run same,
          inr (subst (λ (r : Run). IsTrialOf source source' words r (summary_text played.report)) same (record {
            chosen = there.2.0;
            named = subst (λ (c : Command). IsCommand words c) there.2.1 there.1;
            same = there.2.3;
            plan = there.2.4;
            made = there.2.5;
            played = there.2.6;
            summary = refl;
          })),
        )
      ]

  done_or_fault : (status : ℕ) → IsDone (status_of e.found) → IsDone ended.status ⊎ (ended.status ≡ 7)
  done_or_fault status done = elim (eqb_tells ended.status 7) [
    | inl bad ↦ inr bad.1
    | inr good ↦ inl (subst IsDone (sym (tells.whole good.1).0) done)
  ]

  pub run : (run : Run) → ended.run ≡ Some run → (IsDone ended.status ⊎ (ended.status ≡ 7))
      × (text : List ℕ) × IsRunOf left source source' words run text × (ended.status ≢ 7 → Wrote got sink sink' text) × (ended.status ≡ 7 → WrotePart got sink sink' text)
  run r is =
      let there = run_found e.found r (sym e.concludes.run ∙ is) e.finds in
      (done_or_fault 0 (subst IsDone (sym there.0) (status_of_run-is r)), output_of e.found, there.1, λ good. wrote e.found refl good, λ bad. (tells.part bad).1)

  -- what a run that has a table tells of it
  table_run : (r : Run) (closed : Closed) → ended.run ≡ Some r → r.closed ≡ Some closed → TellsKeys closed r.report × RepliesAddUp r.report × TellsCounts closed r.report.counts
  table_run r closed is there = elim (run r is).2 [
    | inl play ↦ on_table play.chosen.set play.chosen.reclaimer play.chosen play.plan r play.played.played closed there
    | inr trial ↦ let words = played_as trial.chosen in on_table words.set words.reclaimer words trial.plan r trial.played.played closed there
  ]

  pub one_history : (r : Run) (closed : Closed) → ended.run ≡ Some r → r.closed ≡ Some closed
      → (plan : Plan) × WasGiven left source source' words plan × (calls_of r.report.callers ≡ joined plan.lists) × HasOneHistory r.report.set plan.lists r.report.callers closed
  one_history r closed is there = elim (run r is).2 [
    | inl play ↦ (play.plan, inl (play.chosen, play.named, play.gave), play.played.calls, table_history play.chosen.set play.chosen.reclaimer play.chosen play.plan r play.played.played play.played.set_is closed there)
    | inr trial ↦ let own = played_as trial.chosen in
        (trial.plan, inr (trial.chosen, trial.named, trial.made), trial.played.calls, table_history own.set own.reclaimer own trial.plan r trial.played.played trial.played.set_is closed there)
  ]

  pub keys : (r : Run) (closed : Closed) → ended.run ≡ Some r → r.closed ≡ Some closed → TellsKeys closed r.report
  keys r closed is there = (table_run r closed is there).0

  pub adds_up : (r : Run) (closed : Closed) → ended.run ≡ Some r → r.closed ≡ Some closed → RepliesAddUp r.report
  adds_up r closed is there = (table_run r closed is there).1

  pub counts : (r : Run) (closed : Closed) → ended.run ≡ Some r → r.closed ≡ Some closed → TellsCounts closed r.report.counts
  counts r closed is there = (table_run r closed is there).2

  pub unreclaimed : (r : Run) → ended.run ≡ Some r → r.report.reclaimer ≡ Nothing → IsUnreclaimed r.report.counts
  unreclaimed r is nothing = elim (run r is).2 [
    | inl play ↦ frees_none play.chosen.set play.chosen play.plan r
        (subst (λ (n : ReclaimerName). IsPlayed play.chosen.set n play.chosen play.plan r) (sym play.played.reclaimer_is ∙ nothing) play.played.played)
    | inr trial ↦ let words = played_as trial.chosen in frees_none words.set words trial.plan r
        (subst (λ (n : ReclaimerName). IsPlayed words.set n words trial.plan r) (sym trial.played.reclaimer_is ∙ nothing) trial.played.played)
  ]

  pub closes : (r : Run) → ended.run ≡ Some r → (r.report.set ≡ Plain → r.closed ≡ None) × (r.closed ≡ None → r.report.set ≡ Plain)
  closes r is = elim (run r is).2 [
    | inl play ↦ has_table play.chosen.set play.chosen.reclaimer play.chosen play.plan r play.played.played play.played.set_is
    | inr trial ↦ let words = played_as trial.chosen in has_table words.set words.reclaimer words trial.plan r trial.played.played trial.played.set_is
  ]

  -- a run was played as its words choose
  as_chosen : (r : Run) → ended.run ≡ Some r → (chosen : Command) → IsCommand words chosen → (own : PlayWords) → choices_of chosen ≡ Some own → (plan : Plan) × (calls_of r.report.callers ≡ joined plan.lists) × IsPlayed own.set own.reclaimer own plan r
  as_chosen r is chosen named own chooses = elim (run r is).2 [
    | inl play ↦
        let same : play.chosen ≡ own = some_is play.chosen own (ap choices_of (one_command words (command.Play play.chosen) chosen play.named named) ∙ chooses) in
        (play.plan, play.played.calls, subst (λ (w : PlayWords). IsPlayed w.set w.reclaimer w play.plan r) same play.played.played)
    | inr trial ↦
        let same : played_as trial.chosen ≡ own = some_is (played_as trial.chosen) own (ap choices_of (one_command words (command.Trial trial.chosen) chosen trial.named named) ∙ chooses) in
        (trial.plan, trial.played.calls, subst (λ (w : PlayWords). IsPlayed w.set w.reclaimer w trial.plan r) same trial.played.played)
  ]

  pub never_full : (r : Run) → ended.run ≡ Some r → LeaveEnough words r → has_full r.report.callers ≡ false
  never_full r is leave =
      let p = as_chosen r is leave.command leave.named leave.chosen leave.chooses in
      run-not_full leave.chosen.set leave.chosen.reclaimer leave.chosen p.0 r p.2 (subst (λ (calls : List (List Call)). HasEnough leave.chosen (sum_by insertions_in calls)) p.1 leave.enough)

  pub plain_never_full : (r : Run) → ended.run ≡ Some r → r.report.set ≡ Plain → has_full r.report.callers ≡ false
  plain_never_full r is plain = elim (run r is).2 [
    | inl play ↦ run-not_full play.chosen.set play.chosen.reclaimer play.chosen play.plan r play.played.played (plain_enough play.chosen (all_insertions play.plan.lists) (sym play.played.set_is ∙ plain))
    | inr trial ↦
        let words = played_as trial.chosen in
        run-not_full words.set words.reclaimer words trial.plan r trial.played.played (plain_enough words (all_insertions trial.plan.lists) (sym trial.played.set_is ∙ plain))
  ]

  five_found : (found : Verdict) → status_of found ≡ 5 → (run : Run) × (run_of found ≡ Some run) × (has_full run.report.callers ≡ true)
  five_found verdict.WordsRefused is = absurd (omega arith)
  five_found (verdict.Unlawful other) is = absurd (omega arith)
  five_found verdict.ReadFault is = absurd (omega arith)
  five_found verdict.TooLong is = absurd (omega arith)
  five_found (verdict.WorkloadRefused cause) is = absurd (omega arith)
  five_found verdict.OutOfMemory is = absurd (omega arith)
  five_found (verdict.Checked sizes) is = absurd (omega arith)
  five_found (verdict.Generated text) is = absurd (omega arith)
  five_found (verdict.Played run) is = (run, refl, full_by (has_full run.report.callers) is)
  five_found (verdict.Tried run) is = (run, refl, full_by (has_full run.report.callers) is)

  pub full : (ended.status ≡ 5 → (run : Run) × (ended.run ≡ Some run) × (has_full run.report.callers ≡ true) × (ended.status ≢ 7))
      × ((run : Run) × (ended.run ≡ Some run) × (has_full run.report.callers ≡ true) × (ended.status ≢ 7) → ended.status ≡ 5)
  full = (
    λ is. let there = five_found e.found (status_is 5 (λ same. omega arith) is) in (there.0, e.concludes.run ∙ there.1, there.2, λ bad. omega arith),
    λ why. let there = run_found e.found why.0 (sym e.concludes.run ∙ why.1) e.finds in (tells.whole why.3).0 ∙ there.0 ∙ ap status_with why.2,
  )

  going_at : (status : ℕ) → (IsStopped status → ⊥) → ended.status ≡ status → IsStopped ended.status → ⊥
  going_at status going is stopped = going (subst IsStopped is stopped)

  done_going : IsDone ended.status → IsStopped ended.status → ⊥
  done_going done stopped = elim done [
    | inl zero ↦ going_at 0 (λ s. elim s [ inl q ↦ elim q [ inl a ↦ omega arith | inr b ↦ omega arith ] | inr w ↦ omega arith ]) zero stopped
    | inr five ↦ going_at 5 (λ s. elim s [ inl q ↦ elim q [ inl a ↦ omega arith | inr b ↦ omega arith ] | inr w ↦ omega arith ]) five stopped
  ]

  done_is : IsDone ended.status → IsDone (status_of e.found)
  done_is done = subst IsDone (tells.whole (λ bad. done_going done (inr bad))).0 done

  -- a verdict at which all was done
  done_inside : (chosen : Command) → IsCommand words chosen → (found : Verdict) → IsDone (status_of found) → FindsIn left source source' chosen found
      → AreAllowed words × (AreRead words → GaveSomeWorkload left source source')
  done_inside chosen named verdict.WordsRefused done finds = absurd finds
  done_inside chosen named (verdict.Unlawful pair) done finds = absurd (elim done [ inl zero ↦ omega arith | inr five ↦ omega arith ])
  done_inside chosen named verdict.ReadFault done finds = absurd (elim done [ inl zero ↦ omega arith | inr five ↦ omega arith ])
  done_inside chosen named verdict.TooLong done finds = absurd (elim done [ inl zero ↦ omega arith | inr five ↦ omega arith ])
  done_inside chosen named (verdict.WorkloadRefused cause) done finds = absurd (elim done [ inl zero ↦ omega arith | inr five ↦ omega arith ])
  done_inside chosen named verdict.OutOfMemory done finds = absurd (elim done [ inl zero ↦ omega arith | inr five ↦ omega arith ])
  done_inside chosen named (verdict.Checked sizes) done finds =
      ((chosen, named, Reads-allowed chosen (subst Reads (sym finds.0) tt)), λ read. (finds.1, finds.2))
  done_inside chosen named (verdict.Generated text) done finds = (
    (chosen, named, λ set reclaimer parts. absurd (subst (λ (c : Command). HasParts c set reclaimer) finds.1 parts)),
    λ read. absurd (subst Reads (one_command words read.0 chosen read.1 named ∙ finds.1) read.2),
  )
  done_inside chosen named (verdict.Played run) done finds =
      ((chosen, named, Reads-allowed chosen (subst Reads (sym finds.1) finds.2)), λ read. (finds.3, finds.4))
  done_inside chosen named (verdict.Tried run) done finds = (
    (chosen, named, λ set reclaimer parts. Reads-allowed (command.Play (play_words finds.0.set finds.0.reclaimer)) finds.2 set reclaimer (subst (λ (c : Command). HasParts c set reclaimer) finds.1 parts)),
    λ read. absurd (subst Reads (one_command words read.0 chosen read.1 named ∙ finds.1) read.2),
  )

  done_found : (found : Verdict) → IsDone (status_of found) → Finds left words source source' found → AreAllowed words × (AreRead words → GaveSomeWorkload left source source')
  done_found found done finds = elim finds [
    | inl no_command ↦ absurd (let same = ap status_of no_command.1 in elim done [ inl zero ↦ omega arith | inr five ↦ omega arith ])
    | inr there ↦ done_inside there.0 there.1 found done there.2
  ]

  play_run : (chosen : PlayWords) (found : Verdict) → IsDone (status_of found) → FindsIn left source source' (command.Play chosen) found → IsSome (run_of found)
  play_run chosen verdict.WordsRefused done finds = absurd finds
  play_run chosen (verdict.Unlawful pair) done finds = absurd (elim done [ inl zero ↦ omega arith | inr five ↦ omega arith ])
  play_run chosen verdict.ReadFault done finds = absurd (elim done [ inl zero ↦ omega arith | inr five ↦ omega arith ])
  play_run chosen verdict.TooLong done finds = absurd (elim done [ inl zero ↦ omega arith | inr five ↦ omega arith ])
  play_run chosen (verdict.WorkloadRefused cause) done finds = absurd (elim done [ inl zero ↦ omega arith | inr five ↦ omega arith ])
  play_run chosen verdict.OutOfMemory done finds = absurd (elim done [ inl zero ↦ omega arith | inr five ↦ omega arith ])
  play_run chosen (verdict.Checked sizes) done finds = let same = finds.0 in cc
  play_run chosen (verdict.Generated text) done finds = let same = finds.1 in cc
  play_run chosen (verdict.Played run) done finds = refl
  play_run chosen (verdict.Tried run) done finds = refl

  trial_run : (chosen : TrialWords) (found : Verdict) → IsDone (status_of found) → FindsIn left source source' (command.Trial chosen) found → IsSome (run_of found)
  trial_run chosen verdict.WordsRefused done finds = absurd finds
  trial_run chosen (verdict.Unlawful pair) done finds = absurd (elim done [ inl zero ↦ omega arith | inr five ↦ omega arith ])
  trial_run chosen verdict.ReadFault done finds = absurd (elim done [ inl zero ↦ omega arith | inr five ↦ omega arith ])
  trial_run chosen verdict.TooLong done finds = absurd (elim done [ inl zero ↦ omega arith | inr five ↦ omega arith ])
  trial_run chosen (verdict.WorkloadRefused cause) done finds = absurd (elim done [ inl zero ↦ omega arith | inr five ↦ omega arith ])
  trial_run chosen verdict.OutOfMemory done finds = absurd (elim done [ inl zero ↦ omega arith | inr five ↦ omega arith ])
  trial_run chosen (verdict.Checked sizes) done finds = let same = finds.0 in cc
  trial_run chosen (verdict.Generated text) done finds = let same = finds.1 in cc
  trial_run chosen (verdict.Played run) done finds = refl
  trial_run chosen (verdict.Tried run) done finds = refl

  few_inside : (chosen : Command) (found : Verdict) → FindsIn left source source' chosen found → GaveFew left source source' ⊎ (found ≡ verdict.TooLong)
  few_inside chosen verdict.WordsRefused finds = absurd finds
  few_inside chosen (verdict.Unlawful pair) finds = inl (few-same left source source' finds.1)
  few_inside chosen verdict.ReadFault finds = inl finds.1
  few_inside chosen verdict.TooLong finds = inr refl
  few_inside chosen (verdict.WorkloadRefused cause) finds = inl (finds.1.bytes, finds.1.all.gave, finds.1.few)
  few_inside chosen verdict.OutOfMemory finds = inl finds.1
  few_inside chosen (verdict.Checked sizes) finds = inl (finds.2.bytes, finds.2.all.gave, finds.2.few)
  few_inside chosen (verdict.Generated text) finds = inl (few-same left source source' finds.2)
  few_inside chosen (verdict.Played run) finds = inl (finds.4.bytes, finds.4.all.gave, finds.4.few)
  few_inside chosen (verdict.Tried run) finds = inl (few-same left source source' finds.3)

  -- where the words and the pair are accepted and nothing was read, and where what was read isn't too long, few bytes were given
  few_or_long : (found : Verdict) → Finds left words source source' found → GaveFew left source source' ⊎ (found ≡ verdict.TooLong)
  few_or_long found finds = elim finds [ inl no_command ↦ inl (few-same left source source' no_command.2) | inr there ↦ few_inside there.0 found there.2 ]

  module _ (told : IsSome (left source)) where
    same_bytes : (x y : List ℕ) → Gave left source source' x → Gave left source source' y → x ≡ y
    same_bytes x y first second = Gave-same left source source' x y told first second

    few_not_many : GaveFew left source source' → GaveTooMany left source source' → ⊥
    few_not_many few many = let same = ap length (same_bytes few.0 many.0 few.1 many.1) in omega (arith, few.2, many.2)

    one_of_two : GaveSomeWorkload left source source' → GaveRefused left source source' → ⊥
    one_of_two w none = none.1.no_workload w.0 (rw (same_bytes none.1.bytes w.1.bytes none.1.all.gave w.1.all.gave) w.1.text)

    pub too_long : (ended.status ≡ 9 → GaveTooMany left source source' × (ended.status ≢ 7)) × (GaveTooMany left source source' × (ended.status ≢ 7) → ended.status ≡ 9)
    too_long = (
      λ is. ((inside verdict.TooLong (is_TooLong e.found (status_is 9 (λ same. omega arith) is)) (λ same. cc)).2.1, λ bad. omega arith),
      λ why. elim (few_or_long e.found e.finds) [
        | inl few ↦ absurd (few_not_many few why.0)
        | inr is ↦ (tells.whole why.1).0 ∙ ap status_of is
      ],
    )

    module _ (going : IsStopped ended.status → ⊥) where
      settled : ended.status ≡ status_of e.found
      settled = (tells.whole (λ bad. going (inr bad))).0

      no_fault : e.found ≡ verdict.ReadFault → ⊥
      no_fault is = going (inl (inl (settled ∙ ap status_of is)))

      no_want : e.found ≡ verdict.OutOfMemory → ⊥
      no_want is = going (inl (inr (settled ∙ ap status_of is)))

      refuses : (chosen : Command) → Reads chosen → GaveRefused left source source' → (found : Verdict) → e.found ≡ found → FindsIn left source source' chosen found → status_of found ≡ 3
      refuses chosen reads none verdict.WordsRefused is finds = absurd finds
      refuses chosen reads none (verdict.Unlawful pair) is finds = absurd (allowed_not_unlawful chosen pair (Reads-allowed chosen reads) finds.0)
      refuses chosen reads none verdict.ReadFault is finds = absurd (no_fault is)
      refuses chosen reads none verdict.TooLong is finds = absurd (few_not_many (none.1.bytes, none.1.all.gave, none.1.few) finds.1)
      refuses chosen reads none (verdict.WorkloadRefused cause) is finds = refl
      refuses chosen reads none verdict.OutOfMemory is finds = absurd (no_want is)
      refuses chosen reads none (verdict.Checked sizes) is finds = absurd (one_of_two (finds.1, finds.2) none)
      refuses chosen reads none (verdict.Generated text) is finds = absurd (subst Reads finds.1 reads)
      refuses chosen reads none (verdict.Played run) is finds = absurd (one_of_two (finds.3, finds.4) none)
      refuses chosen reads none (verdict.Tried run) is finds = absurd (subst Reads finds.1 reads)

      does : (chosen : Command) → IsCommand words chosen → IsAllowed chosen → (AreRead words → GaveSomeWorkload left source source') → (found : Verdict) → e.found ≡ found
          → FindsIn left source source' chosen found → IsDone (status_of found)
      does chosen named allowed gave verdict.WordsRefused is finds = absurd finds
      does chosen named allowed gave (verdict.Unlawful pair) is finds = absurd (allowed_not_unlawful chosen pair allowed finds.0)
      does chosen named allowed gave verdict.ReadFault is finds = absurd (no_fault is)
      does chosen named allowed gave verdict.TooLong is finds =
          let w = gave (chosen, named, finds.0) in absurd (few_not_many (w.1.bytes, w.1.all.gave, w.1.few) finds.1)
      does chosen named allowed gave (verdict.WorkloadRefused cause) is finds = absurd (one_of_two (gave (chosen, named, finds.0)) (cause, finds.1))
      does chosen named allowed gave verdict.OutOfMemory is finds = absurd (no_want is)
      does chosen named allowed gave (verdict.Checked sizes) is finds = inl refl
      does chosen named allowed gave (verdict.Generated text) is finds = inl refl
      does chosen named allowed gave (verdict.Played run) is finds = status_of_run-is run
      does chosen named allowed gave (verdict.Tried run) is finds = status_of_run-is run

    pub workload_refused : (ended.status ≡ 3 → AreRead words × GaveRefused left source source' × (IsStopped ended.status → ⊥))
        × (AreRead words × GaveRefused left source source' × (IsStopped ended.status → ⊥) → ended.status ≡ 3)
    workload_refused = (
      λ is. let found = is_WorkloadRefused e.found (status_is 3 (λ same. omega arith) is) in
          let there = inside (verdict.WorkloadRefused found.0) found.1 (λ same. cc) in
          ((there.0, there.1, there.2.0), (found.0, there.2.1), going_at 3 (λ stopped. elim stopped [ inl q ↦ elim q [ inl a ↦ omega arith | inr b ↦ omega arith ] | inr w ↦ omega arith ]) is),
      λ why. settled why.2 ∙ refuses why.2 why.0.0 why.0.2 why.1 e.found refl (of_command why.0.0 why.0.1),
    )

    pub done : (IsDone ended.status → AreAllowed words × (AreRead words → GaveSomeWorkload left source source') × (IsStopped ended.status → ⊥))
        × (AreAllowed words × (AreRead words → GaveSomeWorkload left source source') × (IsStopped ended.status → ⊥) → IsDone ended.status)
    done = (
      λ is. let there = done_found e.found (done_is is) e.finds in (there.0, there.1, done_going is),
      λ why. subst IsDone (sym (settled why.2)) (does why.2 why.0.0 why.0.1 why.0.2 why.1 e.found refl (of_command why.0.0 why.0.1)),
    )

  module _ (steady_source : ¬ (Rose (source_faults source) (source_faults source'))) (steady_sink : ¬ (Rose (sink_faults sink) (sink_faults sink'))) where
    all_written : ended.status ≢ 7
    all_written bad = steady_sink (one_more-rises (sink_faults sink) (sink_faults sink') (write_fault bad))

    comes : (chosen : Command) → IsAllowed chosen → (Reads chosen → HoldsWorkload left source) → (found : Verdict) → FindsIn left source source' chosen found
        → Counts source_faults source source' found → IsDone (status_of found) ⊎ (status_of found ≡ 8)
    comes chosen allowed holds verdict.WordsRefused finds counts = absurd finds
    comes chosen allowed holds (verdict.Unlawful pair) finds counts = absurd (allowed_not_unlawful chosen pair allowed finds.0)
    comes chosen allowed holds verdict.ReadFault finds counts = absurd (steady_source (one_more-rises (source_faults source) (source_faults source') counts))
    comes chosen allowed holds verdict.TooLong finds counts =
        let held = holds finds.0 in
        let many = finds.1 in
        let few = Gave-length-le left source source' many.0 held.0 held.1 many.1 in
        let short = length-text_of-le held.2 held.3.0 in
        absurd (omega (arith, few, short, ap length held.3.1, many.2))
    comes chosen allowed holds (verdict.WorkloadRefused cause) finds counts =
        let held = holds finds.0 in
        let none = finds.1 in
        absurd (none.no_workload held.2 (rw (GaveAll-is left source source' none.bytes held.0 held.1 none.all) held.3))
    comes chosen allowed holds verdict.OutOfMemory finds counts = inr refl
    comes chosen allowed holds (verdict.Checked sizes) finds counts = inl (inl refl)
    comes chosen allowed holds (verdict.Generated text) finds counts = inl (inl refl)
    comes chosen allowed holds (verdict.Played run) finds counts = inl (status_of_run-is run)
    comes chosen allowed holds (verdict.Tried run) finds counts = inl (status_of_run-is run)

    completes : AreAllowed words → (AreRead words → HoldsWorkload left source) → IsDone ended.status ⊎ (ended.status ≡ 8)
    completes why holds =
        let is = (tells.whole all_written).0 in
        subst (λ (status : ℕ). IsDone status ⊎ (status ≡ 8)) (sym is) (comes why.0 why.2 (λ reads. holds (why.0, why.1, reads)) e.found (of_command why.0 why.1) e.counts)

  pub complete : AreAllowed words → (AreRead words → HoldsWorkload left source) → ¬ (Rose (source_faults source) (source_faults source')) → ¬ (Rose (sink_faults sink) (sink_faults sink'))
      → IsDone ended.status ⊎ (ended.status ≡ 8)
  complete why holds steady_source steady_sink = completes steady_source steady_sink why holds

  pub run_done : ArePlayed words → IsDone ended.status → IsSome ended.run
  run_done played is = rw e.concludes.run (elim played [
    | inl there ↦ play_run there.0 e.found (done_is is) (of_command (command.Play there.0) there.1)
    | inr there ↦ trial_run there.0 e.found (done_is is) (of_command (command.Trial there.0) there.1)
  ])

  pub alone : (chosen : TrialWords) → IsCommand words (command.Trial chosen) → (run : Run) → ended.run ≡ Some run → AreAlone run.report.callers
  alone chosen named r is = elim (run r is).2 [
    | inl play ↦ absurd (let same : command.Trial chosen ≡ command.Play play.chosen = one_command words (command.Trial chosen) (command.Play play.chosen) named play.named in cc)
    | inr trial ↦ trial_alone trial.chosen (not_shared words trial.chosen trial.named.0) trial.plan trial.made r trial.played
  ]

-- a text that was made isn't empty
pub in_text : {S : Type 0} (left : S → Option (List ℕ)) (before after : S) (chosen : Command) (found : Verdict) → FindsIn left before after chosen found → HasText found
in_text left before after chosen verdict.WordsRefused finds = tt
in_text left before after chosen (verdict.Unlawful pair) finds = tt
in_text left before after chosen verdict.ReadFault finds = tt
in_text left before after chosen verdict.TooLong finds = tt
in_text left before after chosen (verdict.WorkloadRefused cause) finds = tt
in_text left before after chosen verdict.OutOfMemory finds = tt
in_text left before after chosen (verdict.Checked sizes) finds = tt
in_text left before after chosen (verdict.Generated text) finds = λ none. let same : text_of finds.3 ≡ [] = sym finds.5 ∙ none in cc
in_text left before after chosen (verdict.Played run) finds = tt
in_text left before after chosen (verdict.Tried run) finds = tt

pub finds_text : {S : Type 0} (left : S → Option (List ℕ)) (words : List (List ℕ)) (before after : S) (found : Verdict) → Finds left words before after found → HasText found
finds_text left words before after found finds = elim finds [
  | inl no_command ↦ subst HasText (sym no_command.1) tt
  | inr there ↦ in_text left before after there.0 found there.2
]

pub made_text : (chosen : Command) (found : Verdict) → FindsMade chosen found → HasText found
made_text chosen verdict.WordsRefused finds = tt
made_text chosen (verdict.Unlawful pair) finds = tt
made_text chosen verdict.ReadFault finds = tt
made_text chosen verdict.TooLong finds = tt
made_text chosen (verdict.WorkloadRefused cause) finds = tt
made_text chosen verdict.OutOfMemory finds = tt
made_text chosen (verdict.Checked sizes) finds = tt
made_text chosen (verdict.Generated text) finds = λ none. let same : text_of finds.2 ≡ [] = sym finds.4 ∙ none in cc
made_text chosen (verdict.Played run) finds = tt
made_text chosen (verdict.Tried run) finds = tt
