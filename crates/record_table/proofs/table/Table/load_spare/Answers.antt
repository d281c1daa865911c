use Rattle.record_rule.proofs.Asides.{takes_spare}
use Rattle.record_table.proofs.Recording.{adds_spare}
use Rattle.record_table.proofs.table.Table.load_spare.Goals as goal

pub load-requires-clause-lawful : goal.load-requires-clause-lawful
load-requires-clause-lawful g c = let h = c.requires.spare in
    takes_spare _ _ _ _ c.args.pass.now.seat.me.0 _ c.args.index h.0 c.requires.pass.present c.requires.pass.setup c.address_of-word.ensures.place c.requires.index.0 h.1 h.2

pub load-requires-clause-recorded : goal.load-requires-clause-recorded
load-requires-clause-recorded g c = let h = c.requires.spare in let v = c.args.pass.now.seat.me.0 in
    λ n w t. adds_spare v c.args.index _ c.address_of-word.ensures.named h.0 h.1 n w t
