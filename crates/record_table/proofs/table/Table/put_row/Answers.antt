use Rattle.std.proofs.Common.{◌≡◌, ℕ, ap, ◌∙◌, sym, subst, ◌<◌}
use Rattle.record_memory.specs.declared.steps.Word.TheVariants.{Field}
use Rattle.record_memory.specs.Memory.{address}
use Rattle.row_words.specs.Refs.{RefParts}
use Rattle.row_words.specs.Packing.{packed_number}
use Rattle.record_rule.specs.Links.{HasTaken}
use Rattle.record_rule.proofs.Retires.{retires}
use Rattle.record_table.specs.Handles.{rule}
use Rattle.record_table.proofs.Recording.{adds_retire}
use Rattle.record_table.proofs.Stamping.{told_retire, retired_so}
use Rattle.record_table.proofs.table.Table.put_row.Goals as goal

pub store-requires-clause-lawful : goal.store-requires-clause-lawful
store-requires-clause-lawful g c = let v = c.args.pass.now.seat.me.0 in let r : RefParts = c.taken.inside.record in let h = c.requires.taken in
    let taken : HasTaken v r h.0 = subst (λ (x : RefParts). HasTaken v x h.0) (sym c.taken.view_is) h.1 in
    let value : c.pack_number-value.result ≡ packed_number r.generation c.args.stamp = c.pack_number-value.ensures.word ∙ ap (λ (n : ℕ). packed_number n c.args.stamp) (c.get.ensures.number ∙ ap (λ (x : RefParts). x.generation) c.record.view_is) in
    told_retire (rule g.S.Shape.facts g.R.Cover.facts c.args.self.now) _ v _ _ c.args.stamp r h.0 taken value
    (retires g.S.Shape.facts g.R.Cover.facts g.R.Cover.laws _ _ _ c.args.stamp v r h.0 c.requires.pass.present c.requires.pass.setup (subst (λ (x : RefParts). 0 < x.index) c.record.view_is c.record.invariant.index.0)
    (c.address_of-word.ensures.place ∙ ap (λ (x : RefParts). address c.args.self.now.board.shared.key.callers (Field x.index 2)) c.record.view_is) taken c.requires.stamp h.2)

pub store-requires-clause-recorded : goal.store-requires-clause-recorded
store-requires-clause-recorded g c = let v = c.args.pass.now.seat.me.0 in let r : RefParts = c.taken.inside.record in
    λ n w t. adds_retire v r c.pack_number-value.result _ (c.address_of-word.ensures.named ∙ ap (λ (x : RefParts). Field x.index 2) c.record.view_is) n w t

pub returns-clause-step : goal.returns-clause-step
returns-clause-step g c = retired_so _ _ c.pack_number-value.result c.store.ensures.told.0 c.args.stamp c.taken.inside.record c.args.taken c.taken.view_is
    (c.pack_number-value.ensures.word ∙ ap (λ (n : ℕ). packed_number n c.args.stamp) (c.get.ensures.number ∙ ap (λ (x : RefParts). x.generation) c.record.view_is)) c.store.ensures.told.1
