use Rattle.std.proofs.Common.{ap, ◌∙◌}
use Rattle.row_words.specs.Packing.{packed_link, own_in, link_in}
use Rattle.row_words.proofs.Bits.{or_fields}
use Rattle.row_words.proofs.Packed.{own_in-packed_link, link_in-packed_link, packed_ref_fits, is_packed_link}
use Rattle.row_words.proofs.packing.pack_link.Goals as goal

pub returns-clause-in_range : goal.returns-clause-in_range
returns-clause-in_range c =
    rw (← c.link.view_is) (record { flags = c.link.invariant; target = c.pack_ref.ensures.in_range })

pub returns-clause-word : goal.returns-clause-word
unfolding packed_link
returns-clause-word c =
    let target = c.link.inside.target in
    let fits = packed_ref_fits target c.pack_ref.ensures.in_range in
    rw
    (c.from.ensures, c.from-2.ensures, c.pack_ref.ensures.number)
    (or_fields c.args.own c.link.inside.flags _ c.requires.own c.link.invariant fits ∙ ap (packed_link c.args.own) c.link.view_is)

pub returns-clause-own : goal.returns-clause-own
returns-clause-own c =
    ap own_in (returns-clause-word c) ∙ own_in-packed_link c.args.own c.args.link (returns-clause-in_range c)

pub returns-clause-link : goal.returns-clause-link
returns-clause-link c =
    ap link_in (returns-clause-word c) ∙ link_in-packed_link c.args.own c.args.link (returns-clause-in_range c)

pub returns-clause-packed : goal.returns-clause-packed
returns-clause-packed c =
    is_packed_link _ c.args.own c.args.link (returns-clause-in_range c) (returns-clause-word c)
