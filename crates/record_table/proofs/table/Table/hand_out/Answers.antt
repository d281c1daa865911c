use Rattle.std.proofs.Common.{arith, ap, subst, sym, ◌∙◌, ℕ}
use Rattle.row_words.specs.Refs.{RefParts, refer}
use Rattle.row_words.specs.Packing.{packed_number}
use Rattle.record_rule.specs.HandingOut.{HasDrawn, HasOwn, handed_out, fresh_row}
use Rattle.record_rule.proofs.HandingOut.{birth_allowed, next_store, later_word, all_stored, has_own}
use Rattle.record_table.proofs.table.Table.hand_out.Goals as goal

pub store_field-requires-in-loop-field-clause-allowed : goal.store_field-requires-in-loop-field-clause-allowed
store_field-requires-in-loop-field-clause-allowed g c = let r : RefParts = refer c.r.inside.index c.r.inside.generation in let v = c.args.pass.now.seat.me.0 in let lt = c.loop-field-test.true in let low = c.loop-field.auto.field in
    next_store v _ r c.args.birth c.loop-field.field _ (subst (HasDrawn v) (sym c.r.view_is) c.requires.drawn) c.requires.birth (omega arith) c.loop-field.invariant.stored
    (c.pack_number-in-loop-field.ensures.word ∙ ap (λ (z : ℕ). packed_number z 0) c.get-own.ensures.number ∙ sym (later_word c.r.inside.generation c.args.birth c.loop-field.field (omega arith) (omega arith)))

pub store_field-requires-in-loop-field-clause-birth : goal.store_field-requires-in-loop-field-clause-birth
store_field-requires-in-loop-field-clause-birth g c = let r : RefParts = refer c.r.inside.index c.r.inside.generation in let v = c.args.pass.now.seat.me.0 in let lt = c.loop-field-test.true in let low = c.loop-field.auto.field in
    λ h known ends. birth_allowed g.R.Cover.facts.births v _ r c.args.birth c.loop-field.field (subst (HasDrawn v) (sym c.r.view_is) c.requires.drawn) c.requires.birth (omega arith) (omega arith) c.loop-field.invariant.stored c.requires.allowed h known

pub returns-clause-steps : goal.returns-clause-steps
returns-clause-steps g c = let v = c.args.pass.now.seat.me.0 in let low = c.loop-field-test.false in let high = c.loop-field.auto.field-end in
    all_stored v _ (refer c.r.inside.index c.r.inside.generation) c.args.birth c.loop-field.field (omega arith) c.loop-field.invariant.stored ∙ ap (λ (r : RefParts). handed_out v r c.args.birth) c.r.view_is

pub returns-clause-own : goal.returns-clause-own
returns-clause-own g c = let v = c.args.pass.now.seat.me.0 in let low = c.loop-field-test.false in let high = c.loop-field.auto.field-end in
    let e = all_stored v _ (refer c.r.inside.index c.r.inside.generation) c.args.birth c.loop-field.field (omega arith) c.loop-field.invariant.stored ∙ ap (λ (r : RefParts). handed_out v r c.args.birth) c.r.view_is in
    subst (λ w. HasOwn w c.args.r (fresh_row c.args.r.generation c.args.birth)) (sym e) (has_own v c.args.r c.args.birth c.requires.drawn)
