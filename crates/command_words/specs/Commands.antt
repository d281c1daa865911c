-- Which command words name.
use Rattle.std.specs.Prelude.{◌≡◌, ℕ, ◌*◌, ◌≤◌, Bool, true, false, List, [], ◌∷◌, Option, IfSome, codes}
use Rattle.std.specs.Fmt.{decimal}
use Rattle.lawful_pairs.specs.Table.{is_lawful}
use Rattle.set_model.specs.declared.names.AllocatorName.{AllocatorName}
use Rattle.set_model.specs.declared.names.AllocatorName.TheVariants.{Bump, Once}
use Rattle.set_model.specs.declared.names.ReclaimerName.{ReclaimerName}
use Rattle.set_model.specs.declared.names.ReclaimerName.TheVariants.{Nothing, Debra, Hazard, Ibr}
use Rattle.set_model.specs.declared.names.SetName.{SetName}
use Rattle.set_model.specs.declared.names.SetName.TheVariants.{Plain, Michael, Lazy}
use Rattle.command_words.specs.declared.command.Command.{Command}
use Rattle.command_words.specs.declared.command.Command.TheVariants as command
use Rattle.command_words.specs.declared.command.Mode.{Mode}
use Rattle.command_words.specs.declared.command.Mode.TheVariants as mode
use Rattle.command_words.specs.declared.command.PlayWords.{PlayWords}
use Rattle.command_words.specs.declared.command.TrialWords.{TrialWords}
use Rattle.command_words.specs.declared.command.Workloads.{Workloads}
use Rattle.command_words.specs.Options.{ArePairs, Gives, GivesOr, GivesMaybe}
use Rattle.command_words.specs.Words.{mode_word, names_of, allocator_word, answer_word}
use Rattle.text_lines.specs.Names.{set_word, reclaimer_word}

-- the pairs name this number of records, or none
abbrev pub AreRecords : List (List ℕ) → Option ℕ → Type 0
AreRecords words records = GivesMaybe words (codes "--records") decimal records × IfSome records (λ n. 1 ≤ n) × IfSome records (λ n. n ≤ 1048575)

-- what the pairs of `play` choose
pub record IsPlay (words : List (List ℕ)) (chosen : PlayWords) : Type 0 where
  pub set : Gives words (codes "--set") (set_word chosen.set)
  pub reclaimer : Gives words (codes "--reclaimer") (reclaimer_word chosen.reclaimer)
  pub allocator : GivesOr words (codes "--allocator") allocator_word Bump chosen.allocator
  pub buckets : GivesOr words (codes "--buckets") decimal 64 chosen.buckets
  pub some_bucket : 1 ≤ chosen.buckets
  pub few_buckets : chosen.buckets ≤ 4096
  pub records : AreRecords words chosen.records
  -- each bucket of a hash table has a root, and roots are records
  pub roots_fit : chosen.set ≡ Michael → IfSome chosen.records (λ records. chosen.buckets ≤ records)

-- what the pairs of `generate` and `trial` choose of a workload
pub record IsMade (words : List (List ℕ)) (chosen : Workloads) : Type 0 where
  pub callers : Gives words (codes "--callers") (decimal chosen.callers)
  pub some_caller : 1 ≤ chosen.callers
  pub few_callers : chosen.callers ≤ 64
  pub calls : Gives words (codes "--calls") (decimal chosen.calls)
  pub few_calls : chosen.calls * chosen.callers ≤ 1000000
  pub keys : Gives words (codes "--keys") (decimal chosen.keys)
  pub some_key : 1 ≤ chosen.keys
  pub few_keys : chosen.keys ≤ 268435456
  pub seed : Gives words (codes "--seed") (decimal chosen.seed)
  pub seed_fits : chosen.seed ≤ 18446744073709551615

-- what the pairs of `trial` choose
pub record IsTrial (words : List (List ℕ)) (chosen : TrialWords) : Type 0 where
  pub set : Gives words (codes "--set") (set_word chosen.set)
  pub reclaimer : Gives words (codes "--reclaimer") (reclaimer_word chosen.reclaimer)
  pub workload : IsMade words chosen.workload
  pub not_shared : chosen.workload.shared ≡ false

-- what the pairs choose
abbrev pub Chooses : List (List ℕ) → Command → Type 0
Chooses words (command.Play chosen) = IsPlay words chosen
Chooses words command.Check = Unit {0}
Chooses words (command.Generate chosen) = IsMade words chosen × GivesOr words (codes "--shared") answer_word false chosen.shared
Chooses words (command.Trial chosen) = IsTrial words chosen

abbrev pub mode_of : Command → Mode
mode_of (command.Play chosen) = mode.Play
mode_of command.Check = mode.Check
mode_of (command.Generate chosen) = mode.Generate
mode_of (command.Trial chosen) = mode.Trial

-- the words name this command
abbrev pub Names : List (List ℕ) → Command → Type 0
Names [] chosen = ⊥
Names (first ∷ words) chosen = (first ≡ mode_word (mode_of chosen)) × ArePairs (names_of (mode_of chosen)) words × Chooses words chosen

-- The pairs of a set and a reclaimer that can be played today. Each that joins turns its line.
abbrev pub is_built : SetName → ReclaimerName → Bool
is_built Plain Nothing = true
is_built Plain Debra = false
is_built Plain Hazard = false
is_built Plain Ibr = false
is_built Michael Nothing = true
is_built Michael Debra = true
is_built Michael Hazard = true
is_built Michael Ibr = true
is_built Lazy Nothing = false
is_built Lazy Debra = false
is_built Lazy Hazard = false
is_built Lazy Ibr = false

-- the allocators that can draw records today
abbrev pub is_built_allocator : AllocatorName → Bool
is_built_allocator Bump = true
is_built_allocator Once = false

-- A lawful pair has to be one that is built. One that isn't lawful is told apart later.
abbrev pub IsKnownPair : SetName → ReclaimerName → Type 0
IsKnownPair set reclaimer = is_lawful set reclaimer ≡ true → is_built set reclaimer ≡ true

-- the command asks for nothing that isn't built yet
abbrev pub IsKnown : Command → Type 0
IsKnown (command.Play chosen) = IsKnownPair chosen.set chosen.reclaimer × (is_built_allocator chosen.allocator ≡ true)
IsKnown command.Check = Unit {0}
IsKnown (command.Generate chosen) = Unit {0}
IsKnown (command.Trial chosen) = IsKnownPair chosen.set chosen.reclaimer

-- the words are lawful, and this is their command
abbrev pub IsCommand : List (List ℕ) → Command → Type 0
IsCommand words chosen = Names words chosen × IsKnown chosen
