-- Numbers as texts write them: decimal digits without a sign or a leading zero, 0 being `0`.
use Rattle.std.specs.Prelude.{◌≡◌, ℕ, ◌<◌, ◌≤◌, List, length, slice_index}
use Rattle.std.specs.Str.Parse.{AllDigits, digits_value}
use Rattle.text_lines.specs.declared.numbers.Number.{Number}
use Rattle.text_lines.specs.declared.numbers.Number.TheVariants.{Value, TooLarge, NoNumber}

-- the bytes are the digits of the number, of which there may be any number
pub record IsNumber (bytes : List ℕ) (n : ℕ) : Type 0 where
  pub some : 0 < length bytes
  pub no_leading_zero : slice_index bytes 0 ≡ 48 → length bytes ≡ 1
  pub digits : AllDigits 10 bytes
  pub value : digits_value 10 bytes ≡ n

-- what the bytes write: a number up to `most`, a greater one, or none
abbrev pub Writes : List ℕ → ℕ → Number → Type 0
Writes bytes most (Value n) = IsNumber bytes n × (n ≤ most)
Writes bytes most TooLarge = (n : ℕ) × IsNumber bytes n × (most < n)
Writes bytes most NoNumber = (n : ℕ) → ¬ (IsNumber bytes n)

-- where it is a number up to the limit, this is so of it
abbrev pub OnValue : Number → (ℕ → Type 0) → Type 0
OnValue (Value n) P = P n
OnValue TooLarge P = Unit {0}
OnValue NoNumber P = Unit {0}
