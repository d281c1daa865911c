-- Decimal digits one after another, and the numbers that they write.
use Rattle.std.proofs.Common.{◌≡◌, ℕ, ◌+◌, ◌-◌, ◌*◌, ◌^◌, ◌<◌, ◌≤◌, true, false, List, [], ◌∷◌, ◌++◌, length, get_or, take, refl, sym, arith, inl, inr, length-take}
use Rattle.std.specs.Char.{digit_value, is_ascii_digit}
use Rattle.std.specs.Fmt.{decimal}
use Rattle.std.specs.Str.Parse.{AllDigits, digits_value}
use Rattle.std.proofs.lemmas.Bool.{cases_eq}
use Rattle.std.proofs.lemmas.Bool.Decides.{nat_tests}
use Rattle.std.proofs.lemmas.Fmt.{decimal-digits_value, first_decimal, decimal_digit}
use Rattle.std.proofs.lemmas.Int.Digits.{digits_value_more}
use Rattle.std.proofs.lemmas.List.{take_more}
use Rattle.std.proofs.lemmas.Str.Parse.{IsNumeralModel, numerals_by_value, tells_digits, digit_at, digits_value_short}

pub own : IsNumeralModel (AllDigits 10) (digits_value 10)
own = numerals_by_value (AllDigits 10) tells_digits

-- what a byte that is a digit stands for
pub digit_is : (c : ℕ) → is_ascii_digit c ≡ true → digit_value c ≡ c - 48
digit_is c h = grind (arith, nat_tests)

pub digit_below : (c : ℕ) → is_ascii_digit c ≡ true → digit_value c < 10
digit_below c h = grind (arith, nat_tests)

pub no_digit : (ds : List ℕ) (i : ℕ) → i < length ds → is_ascii_digit (get_or ds i 0) ≡ false → AllDigits 10 ds → ⊥
no_digit ds i lt h all = let d = digit_at ds i all lt in grind (arith, nat_tests)

digits_push : (ds : List ℕ) (c : ℕ) → AllDigits 10 ds → digit_value c < 10 → AllDigits 10 (ds ++ c ∷ [])
digits_push [] c h d = (d, tt)
digits_push (e ∷ ds) c h d = (h.0, digits_push ds c h.1 d)

-- one more digit
pub digits_more : (ds : List ℕ) (i : ℕ) → i < length ds → AllDigits 10 (take i ds) → is_ascii_digit (get_or ds i 0) ≡ true → AllDigits 10 (take (i + 1) ds)
digits_more ds i lt h d = rw (take_more ds i 0 lt) (digits_push (take i ds) (get_or ds i 0) h (digit_below (get_or ds i 0) d))

pub value_more : (ds : List ℕ) (i : ℕ) → i < length ds → is_ascii_digit (get_or ds i 0) ≡ true → digits_value 10 (take i ds) * 10 + (get_or ds i 0 - 48) ≡ digits_value 10 (take (i + 1) ds)
value_more ds i lt d = omega (arith, digits_value_more 10 ds i lt, digit_is (get_or ds i 0) d)

-- a further digit fits where at most 18 came before it
pub value_fits : (ds : List ℕ) (i : ℕ) → i < length ds → length ds ≤ 19 → AllDigits 10 (take i ds) → digits_value 10 (take i ds) < 10 ^ 18
value_fits ds i lt few h = digits_value_short own (take i ds) 18 h (omega (arith, length-take i ds))

pub one_zero : (n : ℕ) → n < 2 ^ 64 → get_or (decimal n) 0 0 ≡ 48 → length (decimal n) ≡ 1
one_zero n fits h = elim (cases_eq n 0) [
  | inl e ↦ rw (e, decimal_digit 0 (omega arith)) refl
  | inr ne ↦ absurd (omega (arith, first_decimal n (omega arith) fits))
]

-- digits without a leading zero are the decimal digits of their value
pub decimal_of_value : (ds : List ℕ) → 0 < length ds → length ds ≤ 19 → (get_or ds 0 0 ≡ 48 → length ds ≡ 1) → AllDigits 10 ds → ds ≡ decimal (digits_value 10 ds)
decimal_of_value ds some few zero h = sym (decimal-digits_value own ds h some zero (omega (arith, digits_value_short own ds 19 h few)))
