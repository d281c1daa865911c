-- Which settings and plans lawful words give.
use Rattle.std.specs.Prelude.{◌≡◌, ◌≤◌, true, None, IfSome}
use Rattle.command_words.specs.Commands.{IsKnownPair, is_built, is_built_allocator}
use Rattle.command_words.specs.declared.command.PlayWords.{PlayWords}
use Rattle.command_words.specs.declared.command.TrialWords.{TrialWords}
use Rattle.command_words.specs.declared.command.Workloads.{Workloads}
use Rattle.lawful_pairs.specs.declared.Pair.{Pair}
use Rattle.set_model.specs.declared.names.AllocatorName.TheVariants.{Bump}
use Rattle.set_model.specs.declared.names.SetName.TheVariants.{Michael}
use Rattle.workload_gen.specs.declared.plan.GenPlan.{GenPlan}
use Rattle.bench_core.specs.declared.settings.Settings.{Settings}

-- the settings are ones that lawful words give
pub record AreSettings (settings : Settings) : Type 0 where
  pub built : is_built settings.pair.set settings.pair.reclaimer ≡ true
  pub built_allocator : is_built_allocator settings.allocator ≡ true
  pub some_bucket : 1 ≤ settings.buckets
  pub few_buckets : settings.buckets ≤ 4096
  pub some_record : IfSome settings.chosen (λ records. 1 ≤ records)
  pub few_records : IfSome settings.chosen (λ records. records ≤ 1048575)
  pub roots_fit : settings.pair.set ≡ Michael → IfSome settings.chosen (λ records. settings.buckets ≤ records)

-- the words name a pair that is built or isn't lawful, and a table within its limits
pub record ArePlayable (chosen : PlayWords) : Type 0 where
  pub known : IsKnownPair chosen.set chosen.reclaimer
  pub some_bucket : 1 ≤ chosen.buckets
  pub few_buckets : chosen.buckets ≤ 4096
  pub few_records : IfSome chosen.records (λ records. records ≤ 1048575)
  pub roots_fit : chosen.set ≡ Michael → IfSome chosen.records (λ records. chosen.buckets ≤ records)

-- what words choose for them
abbrev pub play_words : Settings → PlayWords
play_words settings = record {
  set = settings.pair.set;
  reclaimer = settings.pair.reclaimer;
  allocator = settings.allocator;
  buckets = settings.buckets;
  records = settings.chosen;
}

-- what words choose for a workload that is made
abbrev pub made_words : GenPlan → Workloads
made_words plan = record { callers = plan.callers; calls = plan.calls; keys = plan.keys; seed = plan.seed; shared = plan.shared }

-- and for a trial of it
abbrev pub trial_words : Pair → GenPlan → TrialWords
trial_words pair plan = record { set = pair.set; reclaimer = pair.reclaimer; workload = made_words plan }

-- A trial's set is played on 64 buckets and on as many records as are needed, which are drawn from one count
abbrev pub played_as : TrialWords → PlayWords
played_as chosen = record { set = chosen.set; reclaimer = chosen.reclaimer; allocator = Bump; buckets = 64; records = None }
