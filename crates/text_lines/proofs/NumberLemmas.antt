-- Numbers and their decimal digits.
use Rattle.std.proofs.Common.{◌≡◌, ℕ, ◌^◌, ◌<◌, List, sym, subst, ◌∙◌, arith}
use Rattle.std.specs.Fmt.{decimal}
use Rattle.std.proofs.lemmas.Fmt.{decimal_is_IsNumeral, decimal-digits_value}
use Rattle.text_lines.specs.Numbers.{IsNumber}
use Rattle.text_lines.proofs.DigitLemmas.{own, one_zero}

-- printing a number gives its digits
pub IsNumber-decimal : (n : ℕ) → n < 2 ^ 64 → IsNumber (decimal n) n
IsNumber-decimal n fits =
    let numeral = decimal_is_IsNumeral n fits in
    record { some = numeral.0.0; no_leading_zero = one_zero n fits; digits = numeral.0.1; value = numeral.1 }

-- and a number's digits are those that printing it gives
pub number_is_decimal : (ds : List ℕ) (n : ℕ) → n < 2 ^ 64 → IsNumber ds n → ds ≡ decimal n
number_is_decimal ds n fits h =
    let back = decimal-digits_value own ds h.digits h.some h.no_leading_zero (omega (arith, h.value)) in
    subst (λ (m : ℕ). ds ≡ decimal m) h.value (sym back)

-- digits are those of one number alone
pub one_number : (ds : List ℕ) (m n : ℕ) → IsNumber ds m → IsNumber ds n → m ≡ n
one_number ds m n hm hn = sym hm.value ∙ hn.value
