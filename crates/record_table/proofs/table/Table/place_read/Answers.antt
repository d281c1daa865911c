use Rattle.std.proofs.Common.{ap, sym}
use Rattle.record_memory.specs.declared.books.Setup.{Setup}
use Rattle.record_memory.specs.Memory.{word_at}
use Rattle.record_rule.proofs.Placing.{places_read}
use Rattle.record_table.proofs.Recording.{adds_placed}
use Rattle.record_table.proofs.table.Table.place_read.Goals as goal

pub load-requires-clause-lawful : goal.load-requires-clause-lawful
load-requires-clause-lawful g c s u at = places_read g.S.Shape.facts g.R.Cover.facts _ _ 0 g.position c.args.pass.now.seat.me.0 c.args.call c.args.reply c.requires.1.1.0.present c.requires.1.1.1.1.1.may s u at

pub load-requires-clause-recorded : goal.load-requires-clause-recorded
load-requires-clause-recorded g c = λ n w t. adds_placed c.args.pass.now.seat.me.0 _ 0 g.position c.args.call c.args.reply n w (ap (λ (k : Setup). word_at k.callers 0) (sym c.requires.1.1.0.setup)) t

pub returns-clause-placed : goal.returns-clause-placed
returns-clause-placed g c = (c.load.result, c.load.ensures.told)
