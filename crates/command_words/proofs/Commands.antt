-- Words name one command alone.
use Rattle.std.proofs.Common.{◌≡◌, ℕ, ◌-◌, ◌*◌, ◌≤◌, List, [], ◌∷◌, length, get_or, take, drop, Bool, false, codes, String, refl, sym, ap, ◌∙◌, subst, arith}
use Rattle.std.specs.Global.{Global}
use Rattle.std.specs.String.{string_bytes}
use Rattle.std.proofs.Math.Nat.{mul-le-mul_left}
use Rattle.std.proofs.Math.Seq.{take-length}
use Rattle.command_words.specs.Commands.{Chooses, IsCommand, IsKnown, IsMade, IsPlay, IsTrial, mode_of}
use Rattle.command_words.specs.Options.{ArePairs, GivesOr, HasNamesOnce}
use Rattle.command_words.specs.Words.{answer_word, allocator_word, mode_word, names_of, texts_of}
use Rattle.set_model.specs.declared.names.AllocatorName.TheVariants.{Bump}
use Rattle.command_words.specs.declared.command.Command.{Command}
use Rattle.command_words.specs.declared.command.Command.TheVariants as command
use Rattle.command_words.specs.declared.command.Mode.{Mode}
use Rattle.command_words.specs.declared.command.Mode.TheVariants as mode
use Rattle.command_words.specs.declared.command.PlayWords.{PlayWords}
use Rattle.command_words.specs.declared.command.TrialWords.{TrialWords}
use Rattle.command_words.specs.declared.command.Workloads.{Workloads}
use Rattle.command_words.proofs.Pairs.{ArePairs-once}
use Rattle.command_words.proofs.Chosen.{first_of_two, one_allocator, one_answer, same_number, same_set, same_reclaimer, same_or, same_buckets, same_records}

one_mode : (a b : Mode) → mode_word a ≡ mode_word b → a ≡ b
one_mode mode.Play mode.Play same = refl
one_mode mode.Play mode.Check same = absurd (omega (arith, first_of_two same))
one_mode mode.Play mode.Generate same = absurd (omega (arith, first_of_two same))
one_mode mode.Play mode.Trial same = absurd (omega (arith, first_of_two same))
one_mode mode.Check mode.Play same = absurd (omega (arith, first_of_two same))
one_mode mode.Check mode.Check same = refl
one_mode mode.Check mode.Generate same = absurd (omega (arith, first_of_two same))
one_mode mode.Check mode.Trial same = absurd (omega (arith, first_of_two same))
one_mode mode.Generate mode.Play same = absurd (omega (arith, first_of_two same))
one_mode mode.Generate mode.Check same = absurd (omega (arith, first_of_two same))
one_mode mode.Generate mode.Generate same = refl
one_mode mode.Generate mode.Trial same = absurd (omega (arith, first_of_two same))
one_mode mode.Trial mode.Play same = absurd (omega (arith, first_of_two same))
one_mode mode.Trial mode.Check same = absurd (omega (arith, first_of_two same))
one_mode mode.Trial mode.Generate same = absurd (omega (arith, first_of_two same))
one_mode mode.Trial mode.Trial same = refl

play_by_fields : (a b : PlayWords) → a.set ≡ b.set → a.reclaimer ≡ b.reclaimer → a.allocator ≡ b.allocator → a.buckets ≡ b.buckets → a.records ≡ b.records → a ≡ b
play_by_fields a b s r l n k =
    ap (λ v. record a { set = v }) s ∙ ap (λ v. record a { set = b.set; reclaimer = v }) r ∙ ap (λ v. record a { set = b.set; reclaimer = b.reclaimer; allocator = v }) l
    ∙ ap (λ v. record a { set = b.set; reclaimer = b.reclaimer; allocator = b.allocator; buckets = v }) n
    ∙ ap (λ v. record b { records = v }) k

workloads_by_fields : (a b : Workloads) → a.callers ≡ b.callers → a.calls ≡ b.calls → a.keys ≡ b.keys → a.seed ≡ b.seed → a.shared ≡ b.shared → a ≡ b
workloads_by_fields a b s r l n k =
    ap (λ v. record a { callers = v }) s ∙ ap (λ v. record a { callers = b.callers; calls = v }) r ∙ ap (λ v. record a { callers = b.callers; calls = b.calls; keys = v }) l
    ∙ ap (λ v. record a { callers = b.callers; calls = b.calls; keys = b.keys; seed = v }) n
    ∙ ap (λ v. record b { shared = v }) k

calls_within : (chosen : Workloads) (words : List (List ℕ)) → IsMade words chosen → chosen.calls ≤ 1000000
calls_within chosen words made =
    let more : chosen.calls * 1 ≤ chosen.calls * chosen.callers = mul-le-mul_left chosen.calls made.some_caller in
    omega (arith, more, made.few_calls)

trial_by_fields : (a b : TrialWords) → a.set ≡ b.set → a.reclaimer ≡ b.reclaimer → a.workload ≡ b.workload → a ≡ b
trial_by_fields a b s r w =
    ap (λ v. record a { set = v }) s ∙ ap (λ v. record a { set = b.set; reclaimer = v }) r ∙ ap (λ v. record b { workload = v }) w

module _ (words : List (List ℕ)) (once : HasNamesOnce words) where
  same_play : (a b : PlayWords) → IsPlay words a → IsPlay words b → a ≡ b
  same_play a b first second =
      play_by_fields a b (same_set words once (codes "--set") a.set b.set first.set second.set)
      (same_reclaimer words once (codes "--reclaimer") a.reclaimer b.reclaimer first.reclaimer second.reclaimer)
      (same_or words once (codes "--allocator") allocator_word Bump a.allocator b.allocator (one_allocator a.allocator b.allocator) first.allocator second.allocator)
      (same_buckets words once a.buckets b.buckets first.few_buckets second.few_buckets first.buckets second.buckets)
      (same_records words once a.records b.records first.records second.records)

  same_workloads : (a b : Workloads) → IsMade words a → IsMade words b → a.shared ≡ b.shared → a ≡ b
  same_workloads a b first second shared =
      let few : a.calls ≤ 1000000 = calls_within a words first in
      let few' : b.calls ≤ 1000000 = calls_within b words second in
      workloads_by_fields a b (same_number words once (codes "--callers") a.callers b.callers (omega (arith, first.few_callers)) (omega (arith, second.few_callers)) first.callers second.callers)
      (same_number words once (codes "--calls") a.calls b.calls (omega arith) (omega arith) first.calls second.calls)
      (same_number words once (codes "--keys") a.keys b.keys (omega (arith, first.few_keys)) (omega (arith, second.few_keys)) first.keys second.keys)
      (same_number words once (codes "--seed") a.seed b.seed (omega (arith, first.seed_fits)) (omega (arith, second.seed_fits)) first.seed second.seed)
      shared

  same_trial : (a b : TrialWords) → IsTrial words a → IsTrial words b → a ≡ b
  same_trial a b first second =
      trial_by_fields a b (same_set words once (codes "--set") a.set b.set first.set second.set)
      (same_reclaimer words once (codes "--reclaimer") a.reclaimer b.reclaimer first.reclaimer second.reclaimer)
      (same_workloads a.workload b.workload first.workload second.workload (first.not_shared ∙ sym second.not_shared))

  pub same_command : (a b : Command) → mode_of a ≡ mode_of b → Chooses words a → Chooses words b → a ≡ b
  same_command (command.Play a) (command.Play b) same first second = ap command.Play (same_play a b first second)
  same_command (command.Play a) command.Check same first second = cc
  same_command (command.Play a) (command.Generate b) same first second = cc
  same_command (command.Play a) (command.Trial b) same first second = cc
  same_command command.Check (command.Play b) same first second = cc
  same_command command.Check command.Check same first second = refl
  same_command command.Check (command.Generate b) same first second = cc
  same_command command.Check (command.Trial b) same first second = cc
  same_command (command.Generate a) (command.Play b) same first second = cc
  same_command (command.Generate a) command.Check same first second = cc
  same_command (command.Generate a) (command.Generate b) same first second =
      ap command.Generate (same_workloads a b first.0 second.0 (same_or words once (codes "--shared") answer_word false a.shared b.shared (one_answer a.shared b.shared) first.1 second.1))
  same_command (command.Generate a) (command.Trial b) same first second = cc
  same_command (command.Trial a) (command.Play b) same first second = cc
  same_command (command.Trial a) command.Check same first second = cc
  same_command (command.Trial a) (command.Generate b) same first second = cc
  same_command (command.Trial a) (command.Trial b) same first second = ap command.Trial (same_trial a b first second)

-- what `generate` can't choose
pub unshared : (words : List (List ℕ)) → ((shared : Bool) → ¬ (GivesOr words (codes "--shared") answer_word false shared)) → (chosen : Command) → mode_of chosen ≡ mode.Generate → ¬ (Chooses words chosen)
unshared words none (command.Play a) same chooses = cc
unshared words none command.Check same chooses = cc
unshared words none (command.Generate a) same chooses = none a.shared chooses.1
unshared words none (command.Trial a) same chooses = cc

pub unmade : (words : List (List ℕ)) → HasNamesOnce words → (shared : Bool) → GivesOr words (codes "--shared") answer_word false shared → ((made : Workloads) → made.shared ≡ shared → ¬ (IsMade words made))
    → (chosen : Command) → mode_of chosen ≡ mode.Generate → ¬ (Chooses words chosen)
unmade words once shared are none (command.Play a) same chooses = cc
unmade words once shared are none command.Check same chooses = cc
unmade words once shared are none (command.Generate a) same chooses =
    none a (same_or words once (codes "--shared") answer_word false a.shared shared (one_answer a.shared shared) chooses.1 are) chooses.0
unmade words once shared are none (command.Trial a) same chooses = cc

-- the first word, and those behind it
texts_of-first : (words : List (String Global)) (x : String Global) → 1 ≤ length words → x ≡ get_or words 0 x → texts_of words ≡ string_bytes x ∷ texts_of (take (length words - 1) (drop 1 words))
texts_of-first [] x some first = absurd (omega arith)
texts_of-first (a ∷ words) x some first =
    let n : length (a ∷ words) - 1 ≡ length words = omega arith in
    rw (first, n, take-length words) refl

-- Words of which the first is that of a mode, and what a command asks of them.
module _ (words : List (String Global)) (x : String Global) (some : 1 ≤ length words) (first : x ≡ get_or words 0 x) (m : Mode) (is : string_bytes x ≡ mode_word m) where
  abbrev behind : List (List ℕ)
  behind = texts_of (take (length words - 1) (drop 1 words))

  pub asks : (chosen : Command) → IsCommand (texts_of words) chosen → (mode_of chosen ≡ m) × ArePairs (names_of m) behind × Chooses behind chosen × IsKnown chosen
  asks chosen named =
      let h = subst (λ (ts : List (List ℕ)). IsCommand ts chosen) (texts_of-first words x some first) named in
      let same : mode_of chosen ≡ m = one_mode (mode_of chosen) m (sym h.0.0 ∙ is) in
      (same, subst (λ (k : Mode). ArePairs (names_of k) behind) same h.0.1, h.0.2, h.1)

  pub meets : (chosen : Command) → mode_of chosen ≡ m → ArePairs (names_of m) behind → Chooses behind chosen → IsKnown chosen → IsCommand (texts_of words) chosen
  meets chosen same pairs chooses known =
      subst (λ (ts : List (List ℕ)). IsCommand ts chosen) (sym (texts_of-first words x some first))
      ((is ∙ ap mode_word (sym same), subst (λ (k : Mode). ArePairs (names_of k) behind) (sym same) pairs, chooses), known)

-- words name one command
pub one_command : (words : List (List ℕ)) (a b : Command) → IsCommand words a → IsCommand words b → a ≡ b
one_command [] a b first second = absurd first.0
one_command (word ∷ words) a b first second =
    let same : mode_of a ≡ mode_of b = one_mode (mode_of a) (mode_of b) (sym first.0.0 ∙ second.0.0) in
    same_command words (ArePairs-once (names_of (mode_of a)) words first.0.1) a b same first.0.2 second.0.2
