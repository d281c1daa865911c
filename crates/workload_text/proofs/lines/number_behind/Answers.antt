use Rattle.std.proofs.Common.{◌^◌, ◌<◌, [], ◌∷◌, Some, None, arith}
use Rattle.std.proofs.lemmas.Bool.Decides.{Decides-eqb}
use Rattle.std.proofs.lemmas.Slice.Eq.{strip_prefix_is}
use Rattle.text_lines.proofs.NumberLemmas.{one_number}
use Rattle.std.specs.Fmt.{decimal}
use Rattle.workload_text.proofs.LineFacts.{behind_word, numbered_behind, is_number}
use Rattle.workload_text.proofs.lines.number_behind.Goals as goal

pub returns-in_err-strip_prefix-clause-none : goal.returns-in_err-strip_prefix-clause-none
returns-in_err-strip_prefix-clause-none c =
    let none = strip_prefix_is Decides-eqb c.args.text.now c.args.word.now None c.in_err-strip_prefix.ensures.cases in
    rw c.from_residual.ensures (λ n le e. none (32 ∷ decimal n) e)

pub returns-in-Value-clause-found : goal.returns-in-Value-clause-found
returns-in-Value-clause-found c =
    let rest = c.in_ok-strip_prefix.field-0 in
    let digits = c.in_ok-digits.digits in
    let first = strip_prefix_is Decides-eqb c.args.text.now c.args.word.now (Some rest) c.in_ok-strip_prefix.ensures.cases in
    let second = strip_prefix_is Decides-eqb rest.now (32 ∷ []) (Some digits) c.in_ok-digits.ensures.cases in
    (c.in-Value.ensures.writes.1, numbered_behind c.args.text.now c.args.word.now rest.now digits.now c.in-Value.number first second c.in-Value.ensures.printed)

pub returns-in-TooLarge-clause-none : goal.returns-in-TooLarge-clause-none
returns-in-TooLarge-clause-none c = λ n le e.
    let rest = c.in_ok-strip_prefix.field-0 in
    let digits = c.in_ok-digits.digits in
    let first = strip_prefix_is Decides-eqb c.args.text.now c.args.word.now (Some rest) c.in_ok-strip_prefix.ensures.cases in
    let second = strip_prefix_is Decides-eqb rest.now (32 ∷ []) (Some digits) c.in_ok-digits.ensures.cases in
    let fits : n < 2 ^ 64 = omega arith in
    let large = c.in-TooLarge.ensures.writes in
    let one = one_number digits.now large.0 n large.1 (is_number digits.now n fits (behind_word c.args.text.now c.args.word.now rest.now digits.now n first second e)) in
    absurd (omega (arith, one, large.2))

pub returns-in-NoNumber-clause-none : goal.returns-in-NoNumber-clause-none
returns-in-NoNumber-clause-none c = λ n le e.
    let rest = c.in_ok-strip_prefix.field-0 in
    let digits = c.in_ok-digits.digits in
    let first = strip_prefix_is Decides-eqb c.args.text.now c.args.word.now (Some rest) c.in_ok-strip_prefix.ensures.cases in
    let second = strip_prefix_is Decides-eqb rest.now (32 ∷ []) (Some digits) c.in_ok-digits.ensures.cases in
    let fits : n < 2 ^ 64 = omega arith in
    c.in-NoNumber.ensures.writes n (is_number digits.now n fits (behind_word c.args.text.now c.args.word.now rest.now digits.now n first second e))
