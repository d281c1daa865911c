use Rattle.record_rule.proofs.Owners.{loads_word}
use Rattle.record_table.proofs.Recording.{adds_loaded}
use Rattle.record_table.proofs.table.Table.load_field.Goals as goal

pub load-requires-clause-lawful : goal.load-requires-clause-lawful
load-requires-clause-lawful g c = let h = c.requires.known in
    loads_word _ _ g.R.Cover.laws _ _ c.args.pass.now.seat.me.0 _ c.args.index c.args.field h.0 c.requires.pass.present c.requires.pass.setup c.address_of-word.ensures.place c.requires.index.0 h.3 h.1 h.2

pub load-requires-clause-recorded : goal.load-requires-clause-recorded
load-requires-clause-recorded g c = let v = c.args.pass.now.seat.me.0 in λ n w t. adds_loaded v c.args.index c.args.field _ c.address_of-word.ensures.named n w t
