use Rattle.std.proofs.Common.{ℕ, List, subst, arith}
use Rattle.text_lines.specs.Numbers.{Writes}
use Rattle.text_lines.specs.declared.numbers.Number.TheVariants.{Value}
use Rattle.command_words.proofs.Numbers.{value_is, not_one}
use Rattle.command_words.proofs.values.number_named.Goals as goal

pub returns-then-value-least : goal.returns-then-value-least
returns-then-value-least c = λ n low high is.
    let writes = subst (λ (bytes : List ℕ). Writes bytes c.args.most (Value c.in-Value.value)) c.as_bytes.ensures.value (c.in-Value.ensures.writes) in
    let same = value_is c.args.word.now c.args.most (omega arith) c.in-Value.value n writes high is in
    omega (arith, same)

pub returns-in-TooLarge : goal.returns-in-TooLarge
returns-in-TooLarge c = λ n low high is.
    let writes = subst (λ (bytes : List ℕ). Writes bytes c.args.most c.read_number.result) c.as_bytes.ensures.value c.read_number.ensures.writes in
    not_one c.args.word.now c.args.most (omega arith) c.read_number.result n writes c.in-TooLarge.is high is
