-- Words at the front, and what pairs give.
use Rattle.std.proofs.Common.{◌≡◌, ◌≢◌, Option, Some, None, MatchOption, ℕ, ◌-◌, ◌≤◌, inl, inr, List, [], ◌∷◌, length, get_or, take, drop, String, refl, sym, ◌∙◌, subst, arith}
use Rattle.std.specs.Fmt.{decimal}
use Rattle.std.specs.Global.{Global}
use Rattle.std.specs.String.{string_bytes}
use Rattle.std.proofs.Math.Seq.{take-length}
use Rattle.command_words.specs.Options.{ArePairs, Gives, GivesOr, HasNamesOnce}
use Rattle.command_words.specs.Words.{texts_of}

-- the first two words, and those behind them
pub texts_of-two : (words : List (String Global)) (x y : String Global) → 2 ≤ length words → x ≡ get_or words 0 x → y ≡ get_or words 1 y
    → texts_of words ≡ string_bytes x ∷ string_bytes y ∷ texts_of (take (length words - 2) (drop 2 words))
texts_of-two [] x y two first second = absurd (omega arith)
texts_of-two (a ∷ []) x y two first second = absurd (omega arith)
texts_of-two (a ∷ b ∷ words) x y two first second =
    let n : length (a ∷ b ∷ words) - 2 ≡ length words = omega arith in
    rw (first, second, n, take-length words) refl

-- the first word, some value, and those behind them
pub texts_of-name : (words : List (String Global)) (x : String Global) → 2 ≤ length words → x ≡ get_or words 0 x
    → (value : List ℕ) × (texts_of words ≡ string_bytes x ∷ value ∷ texts_of (take (length words - 2) (drop 2 words)))
texts_of-name [] x two first = absurd (omega arith)
texts_of-name (a ∷ []) x two first = absurd (omega arith)
texts_of-name (a ∷ b ∷ words) x two first = (string_bytes b, texts_of-two (a ∷ b ∷ words) x b two first refl)

-- pairs whose names are of some column have no name twice
pub ArePairs-once : (names words : List (List ℕ)) → ArePairs names words → HasNamesOnce words
ArePairs-once names [] pairs = tt
ArePairs-once names (name ∷ []) pairs = pairs
ArePairs-once names (name ∷ value ∷ words) pairs = (pairs.1, ArePairs-once names words pairs.2)

-- a name has one value
pub Gives-one : (words : List (List ℕ)) (name x y : List ℕ) → HasNamesOnce words → Gives words name x → Gives words name y → x ≡ y
Gives-one [] name x y once first second = absurd first
Gives-one (given ∷ []) name x y once first second = absurd first
Gives-one (given ∷ word ∷ words) name x y once (inl a) (inl b) = sym a.1 ∙ b.1
Gives-one (given ∷ word ∷ words) name x y once (inl a) (inr b) = absurd (once.0 y (subst (λ n. Gives words n y) (sym a.0) b))
Gives-one (given ∷ word ∷ words) name x y once (inr a) (inl b) = absurd (once.0 x (subst (λ n. Gives words n x) (sym b.0) a))
Gives-one (given ∷ word ∷ words) name x y once (inr a) (inr b) = Gives-one words name x y once.1 a b

-- a word says no value but the one that it is the word of
module _ {X : Type 0} (words : List (List ℕ)) (name : List ℕ) (text : X → List ℕ) (once : HasNamesOnce words) (word : List ℕ) (given : Gives words name word) where
  pub only : (x : X) → Gives words name (text x) → word ≡ text x
  only x other = Gives-one words name word (text x) once given other

  pub Gives-read : (r : Option X) → MatchOption r ((x : X) → word ≢ text x) (λ x. word ≡ text x)
      → MatchOption r ((x : X) → ¬ (Gives words name (text x))) (λ x. Gives words name (text x))
  Gives-read None none = λ x other. none x (only x other)
  Gives-read (Some x) is = subst (λ (w : List ℕ). Gives words name w) is given

  pub GivesOr-read : (default : X) (r : Option X) → MatchOption r ((x : X) → word ≢ text x) (λ x. word ≡ text x)
      → MatchOption r ((x : X) → ¬ (GivesOr words name text default x)) (λ x. GivesOr words name text default x)
  GivesOr-read default None none = λ x said. elim said [ inl other ↦ none x (only x other) | inr absent ↦ absent.0 word given ]
  GivesOr-read default (Some x) is = inl (subst (λ (w : List ℕ). Gives words name w) is given)

-- and neither does a number
module _ (words : List (List ℕ)) (name : List ℕ) (once : HasNamesOnce words) (word : List ℕ) (given : Gives words name word) (least most : ℕ) where
  pub number-read : (r : Option ℕ) → MatchOption r ((n : ℕ) → least ≤ n → n ≤ most → word ≢ decimal n) (λ n. (word ≡ decimal n) × (least ≤ n) × (n ≤ most))
      → MatchOption r ((n : ℕ) → least ≤ n → n ≤ most → ¬ (Gives words name (decimal n))) (λ n. Gives words name (decimal n) × (least ≤ n) × (n ≤ most))
  number-read None none = λ n low high other. none n low high (only words name decimal once word given n other)
  number-read (Some n) is = (subst (λ (w : List ℕ). Gives words name w) is.0 given, is.1, is.2)
