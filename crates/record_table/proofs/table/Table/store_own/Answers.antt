use Rattle.std.proofs.Common.{ap, subst, sym, ◌∙◌, ◌≡◌, ℕ, Some}
use Rattle.row_words.specs.Refs.{RefParts}
use Rattle.row_words.specs.Packing.{packed_number}
use Rattle.record_memory.specs.declared.books.View.{View}
use Rattle.record_memory.specs.declared.books.Share.{Share}
use Rattle.record_rule.specs.Kinds.{stored, share_in, MayStore}
use Rattle.record_rule.specs.HandingOut.{IsOwnOf}
use Rattle.record_rule.proofs.HandingOut.{own_after, may_store_own}
use Rattle.record_table.proofs.table.Table.store_own.Goals as goal

pub store_field-requires-clause-allowed : goal.store_field-requires-clause-allowed
store_field-requires-clause-allowed g c = let own = c.requires.own in let v : View = c.args.pass.now.seat.me.0 in let r : RefParts = c.args.own.now in
    let i : c.record.inside.index ≡ r.index = ap (λ (z : RefParts). z.index) (c.record.view_is ∙ c.own.view_is) in
    subst (λ (z : ℕ × ℕ). (h : Share) × (share_in v z.0 ≡ Some h) × MayStore h z.1 c.pack_number-value.result) (λ k. (sym i k, c.args.word))
    (may_store_own v r own.0 c.args.word c.pack_number-value.result c.args.payload own.1 c.requires.word.0 c.requires.word.1 c.requires.payload c.requires.link
    (c.pack_number-value.ensures.word ∙ ap (λ (z : ℕ). packed_number z c.args.payload) (c.get.ensures.number ∙ ap (λ (z : RefParts). z.generation) (c.record.view_is ∙ c.own.view_is))))

pub returns-clause-own : goal.returns-clause-own
returns-clause-own g c = let own = c.requires.own in let v : View = c.args.pass.now.seat.me.0 in let r : RefParts = c.args.own.now in let value : ℕ = c.pack_number-value.result in
    let i : c.record.inside.index ≡ r.index = ap (λ (z : RefParts). z.index) (c.record.view_is ∙ c.own.view_is) in
    let e : c.store_field.new.pass.seat.me.0 ≡ stored v r.index c.args.word value = c.store_field.ensures.step ∙ (λ k. stored v (i k) c.args.word value) in
    subst (λ (w : View). IsOwnOf w r) (sym e) (_, own_after v r own.0 c.args.word value own.1)
