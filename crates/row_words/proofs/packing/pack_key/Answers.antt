use Rattle.std.proofs.Common.{ap, ◌∙◌}
use Rattle.row_words.specs.Packing.{packed_key, own_in, kind_in, key_in}
use Rattle.row_words.proofs.Bits.{or_fields}
use Rattle.row_words.proofs.Packed.{own_in-packed_key, kind_in-packed_key, key_in-packed_key}
use Rattle.row_words.proofs.packing.pack_key.Goals as goal

pub returns-clause-word : goal.returns-clause-word
unfolding packed_key
returns-clause-word c =
    rw (c.from.ensures, c.from-2.ensures) (or_fields c.args.own c.args.kind c.args.key c.requires.own c.requires.kind c.requires.key)

pub returns-clause-own : goal.returns-clause-own
returns-clause-own c =
    ap own_in (returns-clause-word c) ∙ own_in-packed_key c.args.own c.args.kind c.args.key c.requires.kind c.requires.key

pub returns-clause-kind : goal.returns-clause-kind
returns-clause-kind c =
    ap kind_in (returns-clause-word c) ∙ kind_in-packed_key c.args.own c.args.kind c.args.key c.requires.kind c.requires.key

pub returns-clause-key : goal.returns-clause-key
returns-clause-key c =
    ap key_in (returns-clause-word c) ∙ key_in-packed_key c.args.own c.args.kind c.args.key c.requires.key
