use Rattle.std.proofs.Common.{ap, sym}
use Rattle.record_memory.specs.declared.books.Setup.{Setup}
use Rattle.record_memory.specs.Memory.{word_at}
use Rattle.record_rule.proofs.Announces.{stores_control}
use Rattle.record_table.proofs.Recording.{adds_own}
use Rattle.record_table.proofs.table.Table.store_control.Goals as goal

pub store-requires-clause-lawful : goal.store-requires-clause-lawful
store-requires-clause-lawful g c = stores_control g.S.Shape.facts g.R.Cover.facts g.S.Shape.laws g.R.Cover.laws _ _ c.args.word c.args.value c.args.pass.now.seat.me.0 c.requires.pass.present c.requires.pass.setup c.requires.allowed

pub store-requires-clause-recorded : goal.store-requires-clause-recorded
store-requires-clause-recorded g c = λ n w t. adds_own g.R.Cover.facts c.args.pass.now.seat.me.0 _ c.args.value n w _ (ap (λ (k : Setup). word_at k.callers c.args.word) (sym c.requires.pass.setup)) c.requires.allowed t
