use Rattle.std.proofs.Common.{ℕ, ◌-◌, List, length, take, drop, refl, sym, subst}
use Rattle.command_words.specs.Options.{ArePairs, IsAbsent, IsOneOf}
use Rattle.command_words.specs.Words.{names_of, texts_of}
use Rattle.command_words.proofs.Pairs.{texts_of-name}
use Rattle.command_words.proofs.options.are_pairs.Goals as goal

pub loop-rest-preserved : goal.loop-rest-preserved
loop-rest-preserved c =
    let two = texts_of-name c.loop-rest.rest.now c.name-item.result c.in-len2-up.len_at_least c.name-item.is in
    let one = subst (λ (name : List ℕ). IsOneOf (names_of c.args.mode) name) c.as_str.ensures.value (c.if-not-is_name_of.ensures.0 refl) in
    let absent = subst (λ (name : List ℕ). IsAbsent (texts_of (take (length c.loop-rest.rest.now - 2) (drop 2 c.loop-rest.rest.now))) name) c.as_str-else-not-is_name_of.ensures.value (c.if-not-is_absent.ensures.0 refl) in
    record {
      whole = λ more. c.loop-rest.invariant.whole (subst (λ (ts : List (List ℕ)). ArePairs (names_of c.args.mode) ts) (sym two.1) (one, absent, more));
      rest = λ all. (subst (λ (ts : List (List ℕ)). ArePairs (names_of c.args.mode) ts) two.1 (c.loop-rest.invariant.rest all)).2;
    }
