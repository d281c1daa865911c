use Rattle.record_rule.proofs.Asides.{sets_aside}
use Rattle.record_table.proofs.Recording.{adds_aside}
use Rattle.record_table.proofs.table.Table.store_aside.Goals as goal

pub store-requires-clause-lawful : goal.store-requires-clause-lawful
store-requires-clause-lawful g c = let h = c.requires.own in
    sets_aside _ _ _ _ c.args.pass.now.seat.me.0 _ c.args.index c.args.value h.0 c.requires.pass.present c.requires.pass.setup c.address_of-word.ensures.place c.requires.index.0 h.1 h.2 h.3 c.requires.link

pub store-requires-clause-recorded : goal.store-requires-clause-recorded
store-requires-clause-recorded g c = let h = c.requires.own in let v = c.args.pass.now.seat.me.0 in
    λ n w t. adds_aside v c.args.index _ c.address_of-word.ensures.named h.0 h.1 c.args.value n w t

pub returns-clause-step : goal.returns-clause-step
returns-clause-step g c = c.store.ensures.told.1.0
