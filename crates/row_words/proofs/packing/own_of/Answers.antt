use Rattle.std.proofs.Common.{refl}
use Rattle.row_words.specs.Packing.{own_in}
use Rattle.row_words.proofs.packing.own_of.Goals as goal

pub returns-clause-own : goal.returns-clause-own
unfolding own_in
returns-clause-own c = refl
