-- What was played, pair by pair.
use Rattle.std.proofs.Common.{◌≡◌, Some, None, refl, sym, ◌∙◌, subst}
use Rattle.command_words.specs.declared.command.PlayWords.{PlayWords}
use Rattle.cover_facts.specs.Keeping.{none}
use Rattle.debra_facts.specs.Debra.{debra}
use Rattle.hazard_facts.specs.Pointers.{hazard}
use Rattle.hash_runs.specs.DebraRuns.{debra_manner}
use Rattle.hash_runs.specs.HazardRuns.{hazard_manner}
use Rattle.hash_runs.specs.IbrRuns.{ibr_manner}
use Rattle.hash_runs.specs.NoneRuns.{none_manner}
use Rattle.ibr_facts.specs.Keeping.{ibr}
use Rattle.list_facts.specs.Michael.{michael}
use Rattle.record_pieces.specs.Manners.{Manner}
use Rattle.record_rule.specs.Facts.{CoverFacts}
use Rattle.record_table.specs.declared.closing.Closed.{Closed}
use Rattle.run_facts.proofs.Unreclaimed.{unreclaimed}
use Rattle.run_facts.specs.Unreclaimed.{IsUnreclaimed}
use Rattle.set_model.specs.declared.names.ReclaimerName.{ReclaimerName}
use Rattle.set_model.specs.declared.names.ReclaimerName.TheVariants.{Nothing, Debra, Hazard, Ibr}
use Rattle.set_model.specs.declared.names.SetName.{SetName}
use Rattle.set_model.specs.declared.names.SetName.TheVariants.{Plain, Michael, Lazy}
use Rattle.table_reports.specs.History.{IsOneHistory}
use Rattle.table_reports.specs.Reports.{TellsCounts, TellsKeys, RepliesAddUp}
use Rattle.workload_text.proofs.Held.{some_is}
use Rattle.workload_text.specs.Limits.{Plan}
use Rattle.bench_core.specs.declared.ending.Run.{Run}
use Rattle.bench_core.specs.Ending.{IsPlayed}
use Rattle.bench_core.specs.Plays.{IsPlainRun}
use Rattle.bench_core.specs.Tables.{HasOneHistory, IsHashRun}

-- the pairs that are played are these; one that joins adds a case
pub by_pair : (P : Type 0) (set : SetName) (reclaimer : ReclaimerName) (chosen : PlayWords) (plan : Plan) (run : Run) → IsPlayed set reclaimer chosen plan run
    → (set ≡ Plain → run.closed ≡ None → IsPlainRun plan run.report → P)
    → (set ≡ Michael → (c : CoverFacts) (m : Manner) (closed : Closed) → run.closed ≡ Some closed → IsHashRun c m chosen plan.lists run.report closed → P)
    → P
by_pair P Plain Nothing chosen plan run played plain hash = plain refl played.0 played.1
by_pair P Michael Nothing chosen plan run played plain hash = hash refl none none_manner played.0 played.1 played.2
by_pair P Michael Debra chosen plan run played plain hash = hash refl debra debra_manner played.0 played.1 played.2
by_pair P Plain Debra chosen plan run played plain hash = absurd played
by_pair P Plain Hazard chosen plan run played plain hash = absurd played
by_pair P Plain Ibr chosen plan run played plain hash = absurd played
by_pair P Michael Hazard chosen plan run played plain hash = hash refl hazard hazard_manner played.0 played.1 played.2
by_pair P Michael Ibr chosen plan run played plain hash = hash refl ibr ibr_manner played.0 played.1 played.2
by_pair P Lazy Nothing chosen plan run played plain hash = absurd played
by_pair P Lazy Debra chosen plan run played plain hash = absurd played
by_pair P Lazy Hazard chosen plan run played plain hash = absurd played
by_pair P Lazy Ibr chosen plan run played plain hash = absurd played

module _ (set : SetName) (reclaimer : ReclaimerName) (chosen : PlayWords) (plan : Plan) (run : Run) (played : IsPlayed set reclaimer chosen plan run) where
  -- what a run that has a table tells of it: its keys, what the replies add up to, and its counts
  pub on_table : (closed : Closed) → run.closed ≡ Some closed → TellsKeys closed run.report × RepliesAddUp run.report × TellsCounts closed run.report.counts
  on_table closed is = by_pair (TellsKeys closed run.report × RepliesAddUp run.report × TellsCounts closed run.report.counts) set reclaimer chosen plan run played
      (λ plain none told. absurd (let differ : None ≡ Some closed = sym none ∙ is in cc))
      (λ hash c m other there told. subst (λ (x : Closed). TellsKeys x run.report × RepliesAddUp run.report × TellsCounts x run.report.counts) (some_is other closed (sym there ∙ is)) (told.keys, told.adds_up, told.counts))

  -- whose one history is told by the facts of its set
  pub table_history : run.report.set ≡ set → (closed : Closed) → run.closed ≡ Some closed → HasOneHistory run.report.set plan.lists run.report.callers closed
  table_history is closed there = by_pair (HasOneHistory run.report.set plan.lists run.report.callers closed) set reclaimer chosen plan run played
      (λ plain none told. absurd (let differ : None ≡ Some closed = sym none ∙ there in cc))
      (λ hash c m other here told. subst (λ (s : SetName). HasOneHistory s plan.lists run.report.callers closed) (sym (is ∙ hash))
      (subst (λ (x : Closed). IsOneHistory michael plan.lists run.report.callers x) (some_is other closed (sym here ∙ there)) told.history))

  -- and one on a plain set has none
  pub has_table : run.report.set ≡ set → (run.report.set ≡ Plain → run.closed ≡ None) × (run.closed ≡ None → run.report.set ≡ Plain)
  has_table is = by_pair ((run.report.set ≡ Plain → run.closed ≡ None) × (run.closed ≡ None → run.report.set ≡ Plain)) set reclaimer chosen plan run played
      (λ plain none told. ((λ same. none), λ same. is ∙ plain))
      (λ hash c m closed there told. (
        λ same. absurd (let differ : Michael ≡ Plain = sym (is ∙ hash) ∙ same in cc),
        λ none. absurd (let differ : Some closed ≡ None = sym there ∙ none in cc),
      ))

-- no pair without reclamation frees a record
pub frees_none : (set : SetName) (chosen : PlayWords) (plan : Plan) (run : Run) → IsPlayed set Nothing chosen plan run → IsUnreclaimed run.report.counts
frees_none Plain chosen plan run played = subst IsUnreclaimed (sym played.1.counts) (record { reused = refl; freed = refl; free = refl; spent = refl })
frees_none Michael chosen plan run played = unreclaimed played.2.played
frees_none Lazy chosen plan run played = absurd played
