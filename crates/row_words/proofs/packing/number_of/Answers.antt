use Rattle.std.proofs.lemmas.Nat.{and_mask}
use Rattle.row_words.specs.Packing.{number_in}
use Rattle.row_words.proofs.packing.number_of.Goals as goal

pub returns-clause-number : goal.returns-clause-number
unfolding number_in
returns-clause-number c = and_mask c.args.word 44
