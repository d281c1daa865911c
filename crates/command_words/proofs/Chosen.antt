-- What pairs of words choose is one thing alone.
use Rattle.std.proofs.Common.{◌≡◌, ℕ, ◌/◌, ◌^◌, ◌<◌, ◌≤◌, inl, inr, Bool, true, false, List, Option, Some, None, IfSome, codes, get_or, refl, sym, ap, ◌∙◌, arith}
use Rattle.std.proofs.Math.Nat.{le-div_iff_mul-le}
use Rattle.std.specs.Fmt.{decimal}
use Rattle.std.proofs.lemmas.Fmt.{decimal_injective}
use Rattle.set_model.specs.declared.names.AllocatorName.{AllocatorName}
use Rattle.set_model.specs.declared.names.AllocatorName.TheVariants.{Bump, Once}
use Rattle.set_model.specs.declared.names.ReclaimerName.{ReclaimerName}
use Rattle.set_model.specs.declared.names.ReclaimerName.TheVariants.{Nothing, Debra, Hazard, Ibr}
use Rattle.set_model.specs.declared.names.SetName.{SetName}
use Rattle.set_model.specs.declared.names.SetName.TheVariants.{Plain, Michael, Lazy}
use Rattle.command_words.specs.Commands.{AreRecords, IsMade, IsPlay}
use Rattle.command_words.specs.Options.{Gives, GivesOr, HasNamesOnce}
use Rattle.text_lines.specs.Names.{set_word, reclaimer_word}
use Rattle.command_words.specs.Words.{allocator_word, answer_word}
use Rattle.command_words.specs.declared.command.PlayWords.{PlayWords}
use Rattle.command_words.specs.declared.command.Workloads.{Workloads}
use Rattle.command_words.proofs.Pairs.{Gives-one}

-- equal words have the same first byte
pub first_of_two : {a b : List ℕ} → a ≡ b → get_or a 0 0 ≡ get_or b 0 0
first_of_two same = ap (λ word. get_or word 0 0) same

-- no two values have one word
pub one_set : (a b : SetName) → set_word a ≡ set_word b → a ≡ b
one_set Plain Plain same = refl
one_set Plain Michael same = absurd (omega (arith, first_of_two same))
one_set Plain Lazy same = absurd (omega (arith, first_of_two same))
one_set Michael Plain same = absurd (omega (arith, first_of_two same))
one_set Michael Michael same = refl
one_set Michael Lazy same = absurd (omega (arith, first_of_two same))
one_set Lazy Plain same = absurd (omega (arith, first_of_two same))
one_set Lazy Michael same = absurd (omega (arith, first_of_two same))
one_set Lazy Lazy same = refl

pub one_reclaimer : (a b : ReclaimerName) → reclaimer_word a ≡ reclaimer_word b → a ≡ b
one_reclaimer Nothing Nothing same = refl
one_reclaimer Nothing Debra same = absurd (omega (arith, first_of_two same))
one_reclaimer Nothing Hazard same = absurd (omega (arith, first_of_two same))
one_reclaimer Nothing Ibr same = absurd (omega (arith, first_of_two same))
one_reclaimer Debra Nothing same = absurd (omega (arith, first_of_two same))
one_reclaimer Debra Debra same = refl
one_reclaimer Debra Hazard same = absurd (omega (arith, first_of_two same))
one_reclaimer Debra Ibr same = absurd (omega (arith, first_of_two same))
one_reclaimer Hazard Nothing same = absurd (omega (arith, first_of_two same))
one_reclaimer Hazard Debra same = absurd (omega (arith, first_of_two same))
one_reclaimer Hazard Hazard same = refl
one_reclaimer Hazard Ibr same = absurd (omega (arith, first_of_two same))
one_reclaimer Ibr Nothing same = absurd (omega (arith, first_of_two same))
one_reclaimer Ibr Debra same = absurd (omega (arith, first_of_two same))
one_reclaimer Ibr Hazard same = absurd (omega (arith, first_of_two same))
one_reclaimer Ibr Ibr same = refl

pub one_allocator : (a b : AllocatorName) → allocator_word a ≡ allocator_word b → a ≡ b
one_allocator Bump Bump same = refl
one_allocator Bump Once same = absurd (omega (arith, first_of_two same))
one_allocator Once Bump same = absurd (omega (arith, first_of_two same))
one_allocator Once Once same = refl

pub one_answer : (a b : Bool) → answer_word a ≡ answer_word b → a ≡ b
one_answer true true same = refl
one_answer true false same = absurd (omega (arith, first_of_two same))
one_answer false true same = absurd (omega (arith, first_of_two same))
one_answer false false same = refl

module _ (words : List (List ℕ)) (once : HasNamesOnce words) where
  pub same_number : (name : List ℕ) (m n : ℕ) → m < 2 ^ 64 → n < 2 ^ 64 → Gives words name (decimal m) → Gives words name (decimal n) → m ≡ n
  same_number name m n low high first second = decimal_injective m n low high (Gives-one words name (decimal m) (decimal n) once first second)

  pub same_set : (name : List ℕ) (a b : SetName) → Gives words name (set_word a) → Gives words name (set_word b) → a ≡ b
  same_set name a b first second = one_set a b (Gives-one words name (set_word a) (set_word b) once first second)

  pub same_reclaimer : (name : List ℕ) (a b : ReclaimerName) → Gives words name (reclaimer_word a) → Gives words name (reclaimer_word b) → a ≡ b
  same_reclaimer name a b first second = one_reclaimer a b (Gives-one words name (reclaimer_word a) (reclaimer_word b) once first second)

  -- also where a default may stand
  pub same_or : {X : Type 0} (name : List ℕ) (text : X → List ℕ) (default a b : X) → (text a ≡ text b → a ≡ b) → GivesOr words name text default a → GivesOr words name text default b → a ≡ b
  same_or name text default a b told (inl first) (inl second) = told (Gives-one words name (text a) (text b) once first second)
  same_or name text default a b told (inl first) (inr second) = absurd (second.0 (text a) first)
  same_or name text default a b told (inr first) (inl second) = absurd (first.0 (text b) second)
  same_or name text default a b told (inr first) (inr second) = first.1 ∙ sym second.1

  pub same_buckets : (m n : ℕ) → m ≤ 4096 → n ≤ 4096 → GivesOr words (codes "--buckets") decimal 64 m → GivesOr words (codes "--buckets") decimal 64 n → m ≡ n
  same_buckets m n low high first second = same_or (codes "--buckets") decimal 64 m n (decimal_injective m n (omega arith) (omega arith)) first second

  pub same_records : (a b : Option ℕ) → AreRecords words a → AreRecords words b → a ≡ b
  same_records None None first second = refl
  same_records None (Some n) first second = absurd (first.0 (decimal n) second.0)
  same_records (Some m) None first second = absurd (second.0 (decimal m) first.0)
  same_records (Some m) (Some n) first second = ap Some (same_number (codes "--records") m n (omega (arith, first.2)) (omega (arith, second.2)) first.0 second.0)

  -- where the records are too few for the buckets of these words, nothing is chosen
  pub refused_by_roots : (set : SetName) (buckets : ℕ) (records : Option ℕ) → Gives words (codes "--set") (set_word set) → GivesOr words (codes "--buckets") decimal 64 buckets → buckets ≤ 4096
      → AreRecords words records → ((set ≡ Michael → IfSome records (λ n. buckets ≤ n)) → ⊥) → (chosen : PlayWords) → ¬ (IsPlay words chosen)
  refused_by_roots set buckets records is_set are_buckets few are_records refused chosen play =
      let s = same_set (codes "--set") set chosen.set is_set play.set in
      let b = same_buckets buckets chosen.buckets few play.few_buckets are_buckets play.buckets in
      let r = same_records records chosen.records are_records play.records in
      refused (rw (s, b, r) play.roots_fit)

  -- calls that are few enough are so for these callers
  pub calls_few : (callers : ℕ) (chosen : Workloads) → 1 ≤ callers → callers ≤ 64 → Gives words (codes "--callers") (decimal callers) → IsMade words chosen → chosen.calls ≤ 1000000 / callers
  calls_few callers chosen some few given made =
      let same = same_number (codes "--callers") callers chosen.callers (omega arith) (omega (arith, made.few_callers)) given made.callers in
      rw same ((le-div_iff_mul-le {k = chosen.callers} {x = chosen.calls} {y = 1000000} (omega (arith, made.some_caller))).1 made.few_calls)
