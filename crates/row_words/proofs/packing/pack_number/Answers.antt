use Rattle.std.proofs.Common.{ap, ◌∙◌}
use Rattle.row_words.specs.Packing.{packed_number, own_in, number_in}
use Rattle.row_words.proofs.Bits.{or_field}
use Rattle.row_words.proofs.Packed.{own_in-packed_number, number_in-packed_number}
use Rattle.row_words.proofs.packing.pack_number.Goals as goal

pub returns-clause-word : goal.returns-clause-word
unfolding packed_number
returns-clause-word c = rw c.from.ensures (or_field c.args.own c.args.number c.requires.own c.requires.number)

pub returns-clause-own : goal.returns-clause-own
returns-clause-own c =
    ap own_in (returns-clause-word c) ∙ own_in-packed_number c.args.own c.args.number c.requires.number

pub returns-clause-number : goal.returns-clause-number
returns-clause-number c =
    ap number_in (returns-clause-word c) ∙ number_in-packed_number c.args.own c.args.number c.requires.number
