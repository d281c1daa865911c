use Rattle.std.proofs.Common.{◌/◌, ◌^◌}
use Rattle.std.proofs.lemmas.Nat.{and_mask}
use Rattle.row_words.specs.Packing.{kind_in}
use Rattle.row_words.proofs.packing.kind_of.Goals as goal

pub returns-clause-kind : goal.returns-clause-kind
unfolding kind_in
returns-clause-kind c = and_mask (c.args.word / 2 ^ 40) 4
