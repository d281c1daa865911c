use Rattle.std.proofs.Common.{◌≡◌, ℕ, ◌+◌, ◌-◌, ◌^◌, ◌<◌, List, ◌++◌, sym, ◌∙◌, ap, subst, take, drop, length, get_or, length-drop, arith}
use Rattle.std.specs.Fmt.{decimal}
use Rattle.std.specs.Str.Parse.{AllDigits}
use Rattle.std.proofs.lemmas.List.{take_all, length-take-le, get_or-take}
use Rattle.text_lines.specs.Lines.{line}
use Rattle.text_lines.specs.Numbers.{IsNumber}
use Rattle.text_lines.proofs.DigitLemmas.{digits_more, value_more, digit_is, digit_below}
use Rattle.text_lines.proofs.FeedLemmas.{digits_feedless}
use Rattle.text_lines.proofs.LineLemmas.{no_line}
use Rattle.text_lines.proofs.NumberLemmas.{number_is_decimal}
use Rattle.workload_text.proofs.LineFacts.{feed_behind_digits, value_so_far, line_of_digits, split_at}
use Rattle.workload_text.proofs.lines.number_line.Goals as goal
use Rattle.workload_text.proofs.lines.number_line.Goals.{else-i-gt1-via-then-i-gt1+else-bytes-eq48, else-i-gt1-via-else-i-gt1}

is_line : (bytes rest : List ℕ) (n i : ℕ) → n < 2 ^ 64 → i < length bytes → get_or bytes i 0 ≡ 10 → AllDigits 10 (take i bytes) → bytes ≡ line (decimal n) ++ rest → IsNumber (take i bytes) n
is_line bytes rest n i fits lt feed digits e = line_of_digits bytes rest n i fits digits (split_at bytes i lt feed) e

pub returns-then-i-eq0-clause-none : goal.returns-then-i-eq0-clause-none
returns-then-i-eq0-clause-none c = λ n rest le e.
    let number = is_line c.args.bytes.now rest n c.loop-i.i (omega arith) c.loop-i-test.true c.if-byte-eq10.true c.loop-i.invariant.digits e in
    absurd (omega (arith, number.some, length-take-le c.loop-i.i c.args.bytes.now (omega arith)))

pub returns-then-bytes-eq48-clause-none : goal.returns-then-bytes-eq48-clause-none
returns-then-bytes-eq48-clause-none c = λ n rest le e.
    let number = is_line c.args.bytes.now rest n c.loop-i.i (omega arith) c.loop-i-test.true c.if-byte-eq10.true c.loop-i.invariant.digits e in
    let first : get_or (take c.loop-i.i c.args.bytes.now) 0 0 ≡ 48 = get_or-take c.loop-i.i c.args.bytes.now 0 0 (omega arith) ∙ c.if-bytes-eq48.true in
    absurd (omega (arith, number.no_leading_zero first, length-take-le c.loop-i.i c.args.bytes.now (omega arith)))

pub returns-then-value-most-clause-none : goal.returns-then-value-most-clause-none
returns-then-value-most-clause-none c = λ n rest le e.
    absurd (omega (arith, value_so_far c.args.bytes.now rest n c.loop-i.i (omega arith) c.loop-i.invariant.digits e, c.loop-i.invariant.value))

pub returns-then-byte-eq10-clause-found : goal.returns-then-byte-eq10-clause-found
returns-then-byte-eq10-clause-found c =
    let bytes = c.args.bytes.now in
    let i = c.loop-i.i in
    let size : length (take i bytes) ≡ i = length-take-le i bytes (omega arith) in
    let first : get_or (take i bytes) 0 0 ≡ get_or bytes 0 0 = get_or-take i bytes 0 0 (omega arith) in
    let zero : get_or (take i bytes) 0 0 ≡ 48 → length (take i bytes) ≡ 1 = λ h. elim c.else-i-gt1.branch [
      | else-i-gt1-via-then-i-gt1+else-bytes-eq48 w ↦ absurd (w.if-bytes-eq48.false (sym first ∙ h))
      | else-i-gt1-via-else-i-gt1 w ↦ omega arith
    ] in
    let number : IsNumber (take i bytes) c.loop-i.value = record { some = omega arith; no_leading_zero = zero; digits = c.loop-i.invariant.digits; value = sym c.loop-i.invariant.value } in
    let spelled = number_is_decimal (take i bytes) c.loop-i.value (omega arith) number in
    let behind : take (length bytes - (i + 1)) (drop (i + 1) bytes) ≡ drop (i + 1) bytes = take_all (length bytes - (i + 1)) (drop (i + 1) bytes) (omega (arith, length-drop (i + 1) bytes)) in
    (omega arith, split_at bytes i c.loop-i-test.true c.if-byte-eq10.true ∙ ap (λ (ds : List ℕ). line ds ++ drop (i + 1) bytes) spelled ∙ ap (λ (r : List ℕ). line (decimal c.loop-i.value) ++ r) (sym behind))

pub returns-then-not-is_ascii_digit-clause-none : goal.returns-then-not-is_ascii_digit-clause-none
returns-then-not-is_ascii_digit-clause-none c = λ n rest le e.
    feed_behind_digits c.args.bytes.now rest n c.loop-i.i (omega arith) c.loop-i.invariant.digits (sym c.is_ascii_digit.ensures.value ∙ c.if-not-is_ascii_digit.true) c.if-byte-eq10.false e

pub returns-then-value-most-2-clause-none : goal.returns-then-value-most-2-clause-none
returns-then-value-most-2-clause-none c = λ n rest le e.
    absurd (omega (arith, value_so_far c.args.bytes.now rest n c.loop-i.i (omega arith) c.loop-i.invariant.digits e, c.loop-i.invariant.value))

pub loop-i-preserved : goal.loop-i-preserved
loop-i-preserved c =
    let bytes = c.args.bytes.now in
    let i = c.loop-i.i in
    let digit = sym c.is_ascii_digit.ensures.value ∙ c.if-not-is_ascii_digit.false in
    let small = digit_below (get_or bytes i 0) digit in
    let is = digit_is (get_or bytes i 0) digit in
    let more = value_more bytes i c.loop-i-test.true digit in
    record {
      digits = digits_more bytes i c.loop-i-test.true c.loop-i.invariant.digits digit;
      value = omega (arith, c.from.ensures, c.loop-i.invariant.value, more);
      bound = omega (arith, c.from.ensures, small, is);
    }

pub returns-clause-none : goal.returns-clause-none
returns-clause-none c = λ n rest le e.
    let whole : take c.loop-i.i c.args.bytes.now ≡ c.args.bytes.now = take_all c.loop-i.i c.args.bytes.now c.loop-i-test.false in
    no_line c.args.bytes.now (decimal n) rest (digits_feedless c.args.bytes.now (subst (AllDigits 10) whole c.loop-i.invariant.digits)) e
