use Rattle.std.proofs.Common.{ℕ, List, inl, inr, sym, subst}
use Rattle.std.proofs.lemmas.Bool.{false≢true}
use Rattle.command_words.specs.Options.{Gives}
use Rattle.command_words.proofs.Pairs.{texts_of-two}
use Rattle.command_words.proofs.options.value_of.Goals as goal

pub loop-rest-preserved : goal.loop-rest-preserved
loop-rest-preserved c =
    let two = texts_of-two c.loop-rest.rest.now c.given-item.result c.value-item.result c.in-len2-up.len_at_least c.given-item.is c.value-item.is in
    record {
      here = λ value more. c.loop-rest.invariant.here value (subst (λ (ts : List (List ℕ)). Gives ts c.args.name.now value) (sym two) (inr more));
      nowhere_else = λ value all. elim (subst (λ (ts : List (List ℕ)). Gives ts c.args.name.now value) two (c.loop-rest.invariant.nowhere_else value all)) [
        | inl same ↦ absurd (false≢true (c.if-is.ensures.1 same.0))
        | inr more ↦ more
      ];
    }
