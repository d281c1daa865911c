use Rattle.std.proofs.Common.{◌<◌, ap, ◌∙◌, sym, inl, inr, arith}
use Rattle.std.proofs.lemmas.Nat.{and_mask}
use Rattle.row_words.specs.Packing.{packed_ref}
use Rattle.row_words.proofs.Packed.{ref_parts, ref_in_none, ref_in_some, ref_some_in_range, ref_is_packed}
use Rattle.row_words.proofs.packing.ref_of.Goals as goal

pub overflow_cast-number : goal.overflow_cast-number
overflow_cast-number c =
    elim (ref_parts c.args.number c.requires.packed) [ inl e ↦ omega (arith, e) | inr parts ↦ omega (arith, parts) ]

pub returns-in_err-generation-clause-target : goal.returns-in_err-generation-clause-target
returns-in_err-generation-clause-target c =
    c.from_residual.ensures ∙ sym (ref_in_none c.args.number c.requires.packed c.in_err-generation.ensures)

pub returns-in_err-generation-clause-in_range : goal.returns-in_err-generation-clause-in_range
returns-in_err-generation-clause-in_range c = rw c.from_residual.ensures tt

pub returns-in_err-generation-clause-number : goal.returns-in_err-generation-clause-number
returns-in_err-generation-clause-number c =
    ap packed_ref (returns-in_err-generation-clause-target c) ∙ ref_is_packed c.args.number c.requires.packed

pub returns-clause-in_range : goal.returns-clause-in_range
returns-clause-in_range c =
    let generation = c.in_ok-generation.ensures in
    let above : 0 < c.in_ok-generation.generation = omega (arith, generation) in
    ref_some_in_range c.args.number _ _ c.requires.packed (and_mask c.args.number 20) generation.0 above

pub invariant_of-result : goal.invariant_of-result
invariant_of-result c = returns-clause-in_range c

pub returns-clause-target : goal.returns-clause-target
returns-clause-target c =
    let generation = c.in_ok-generation.ensures in
    let above : 0 < c.in_ok-generation.generation = omega (arith, generation) in
    ref_in_some c.args.number _ _ c.requires.packed (and_mask c.args.number 20) generation.0 above

pub returns-clause-number : goal.returns-clause-number
returns-clause-number c =
    ap packed_ref (returns-clause-target c) ∙ ref_is_packed c.args.number c.requires.packed
