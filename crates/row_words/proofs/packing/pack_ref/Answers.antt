use Rattle.std.proofs.Common.{ap, ◌∙◌, Some, sym}
use Rattle.row_words.specs.Packing.{packed_ref, ref_in}
use Rattle.row_words.proofs.Bits.{or_index}
use Rattle.row_words.proofs.Packed.{ref_in-packed_ref, is_packed_ref}
use Rattle.row_words.proofs.packing.pack_ref.Goals as goal

pub returns-in-Some-clause-number : goal.returns-in-Some-clause-number
unfolding packed_ref
returns-in-Some-clause-number c =
    rw
    (c.from.ensures, c.get.ensures.number, c.from-in-Some.ensures)
    (or_index c.r.inside.generation c.r.inside.index c.r.invariant.generation.1 c.r.invariant.index.1 ∙ ap (λ r. packed_ref (Some r)) c.r.view_is ∙ sym (ap packed_ref c.in-Some.is))

pub returns-in-Some-clause-in_range : goal.returns-in-Some-clause-in_range
returns-in-Some-clause-in_range c = rw (c.in-Some.is, ← c.r.view_is) c.r.invariant

pub returns-in-Some-clause-target : goal.returns-in-Some-clause-target
returns-in-Some-clause-target c =
    ap ref_in (returns-in-Some-clause-number c) ∙ ref_in-packed_ref c.args.target (returns-in-Some-clause-in_range c)

pub returns-in-None-clause-number : goal.returns-in-None-clause-number
unfolding packed_ref
returns-in-None-clause-number c = sym (ap packed_ref c.in-None.is)

pub returns-in-None-clause-target : goal.returns-in-None-clause-target
unfolding ref_in
returns-in-None-clause-target c = sym c.in-None.is

pub returns-in-Some-clause-packed : goal.returns-in-Some-clause-packed
returns-in-Some-clause-packed c =
    is_packed_ref _ c.args.target (returns-in-Some-clause-in_range c) (returns-in-Some-clause-number c)

pub returns-in-None-clause-packed : goal.returns-in-None-clause-packed
returns-in-None-clause-packed c =
    is_packed_ref _ c.args.target (rw c.in-None.is tt) (returns-in-None-clause-number c)
