use Rattle.record_rule.proofs.Owners.{stores_word}
use Rattle.record_table.proofs.Recording.{adds_stored}
use Rattle.record_table.proofs.table.Table.store_field.Goals as goal

pub store-requires-clause-lawful : goal.store-requires-clause-lawful
store-requires-clause-lawful g c = let h = c.requires.allowed in
    stores_word _ _ g.R.Cover.laws _ _ c.args.pass.now.seat.me.0 _ c.args.index c.args.field c.args.value h.0 c.requires.pass.present c.requires.pass.setup c.address_of-word.ensures.place c.requires.index.0 h.1 h.2 (c.requires.birth h.0 h.1)

pub store-requires-clause-recorded : goal.store-requires-clause-recorded
store-requires-clause-recorded g c = let h = c.requires.allowed in let v = c.args.pass.now.seat.me.0 in
    λ n w t. adds_stored v c.args.index c.args.field _ c.address_of-word.ensures.named h.0 h.1 c.args.value n w t

pub returns-clause-step : goal.returns-clause-step
returns-clause-step g c = c.store.ensures.told.1.0

pub returns-clause-over : goal.returns-clause-over
returns-clause-over g c = (c.store.ensures.told.0, c.store.ensures.told.1.1)
