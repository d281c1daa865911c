use Rattle.std.proofs.lemmas.Nat.{and_mask}
use Rattle.row_words.specs.Packing.{key_in}
use Rattle.row_words.proofs.packing.key_of.Goals as goal

pub returns-clause-key : goal.returns-clause-key
unfolding key_in
returns-clause-key c = and_mask c.args.word 40
