use Rattle.std.proofs.Common.{codes, inl, inr}
use Rattle.std.specs.Fmt.{decimal}
use Rattle.command_words.specs.Words.{texts_of}
use Rattle.command_words.proofs.Pairs.{only}
use Rattle.command_words.proofs.values.buckets_of.Goals as goal

pub returns-in-None-number_named : goal.returns-in-None-number_named
returns-in-None-number_named c = λ n low high said.
    let word = c.in-Some.word.now in
    elim said [
      | inl given ↦ c.in-None-number_named.ensures n low high (only (texts_of c.args.words.now) (codes "--buckets") decimal c.requires word c.in-Some.ensures n given)
      | inr absent ↦ absent.0 word c.in-Some.ensures
    ]
