use Rattle.std.proofs.Common.{◌≡◌, ◌<◌, List, ℕ, sym, ◌∙◌, subst, take, length, get_or, arith}
use Rattle.std.specs.Str.Parse.{AllDigits, digits_value}
use Rattle.std.proofs.lemmas.List.{take_all}
use Rattle.text_lines.specs.Numbers.{IsNumber}
use Rattle.text_lines.proofs.DigitLemmas.{no_digit, digits_more, value_more, digit_is, digit_below}
use Rattle.text_lines.proofs.NumberLemmas.{number_is_decimal}
use Rattle.text_lines.proofs.numbers.read_number.Goals as goal
use Rattle.text_lines.proofs.numbers.read_number.Goals.{then-value-limit, else-value-limit, else-bytes-eq48-via-then-bytes-eq48+else-bytes-gt1, else-bytes-eq48-via-else-bytes-eq48}

pub returns-then-not-is_ascii_digit-clause-writes : goal.returns-then-not-is_ascii_digit-clause-writes
returns-then-not-is_ascii_digit-clause-writes c = λ n h.
    no_digit c.args.bytes.now c.loop-byte.byte-index c.loop-byte-test.true (sym c.is_ascii_digit.ensures.value ∙ c.if-not-is_ascii_digit.true) h.digits

pub loop-byte-preserved : goal.loop-byte-preserved
loop-byte-preserved c =
    let bytes = c.args.bytes.now in
    let i = c.loop-byte.byte-index in
    let digit = sym c.is_ascii_digit.ensures.value ∙ c.if-not-is_ascii_digit.false in
    let small = digit_below (get_or bytes i 0) digit in
    let is = digit_is (get_or bytes i 0) digit in
    let more = value_more bytes i c.loop-byte-test.true digit in
    let digits = digits_more bytes i c.loop-byte-test.true c.loop-byte.invariant.digits digit in
    elim c.if-value-limit.branch [
      | then-value-limit w ↦ record {
        digits = digits;
        below = omega (arith, w.from.ensures, w.value-is, c.loop-byte.invariant.exact);
        bound = omega (arith, w.from.ensures, w.value-is);
        exact = λ h. omega (arith, w.from.ensures, w.value-is, c.loop-byte.invariant.exact);
      }
      | else-value-limit w ↦ record {
        digits = digits;
        below = omega (arith, w.value-is);
        bound = omega (arith, w.value-is);
        exact = λ h. absurd (omega (arith, w.value-is, w.if-value-limit.false));
      }
    ]

pub returns-then-value-limit-2-clause-printed : goal.returns-then-value-limit-2-clause-printed
returns-then-value-limit-2-clause-printed c =
    let bytes = c.args.bytes.now in
    let all : take c.loop-byte.byte-index bytes ≡ bytes = take_all c.loop-byte.byte-index bytes c.loop-byte-test.false in
    let some : 0 < length bytes = grind arith in
    let zero : get_or bytes 0 0 ≡ 48 → length bytes ≡ 1 = λ h. elim c.else-bytes-eq48.branch [
      | else-bytes-eq48-via-then-bytes-eq48+else-bytes-gt1 w ↦ omega arith
      | else-bytes-eq48-via-else-bytes-eq48 w ↦ absurd (omega arith)
    ] in
    let number : IsNumber bytes c.loop-byte.value = record {
      some = some;
      no_leading_zero = zero;
      digits = subst (AllDigits 10) all c.loop-byte.invariant.digits;
      value = let v : digits_value 10 (take c.loop-byte.byte-index bytes) ≡ c.loop-byte.value = omega (arith, c.loop-byte.invariant.exact) in subst (λ (xs : List ℕ). digits_value 10 xs ≡ c.loop-byte.value) all v;
    } in
    number_is_decimal bytes c.loop-byte.value (omega arith) number
