use Rattle.std.proofs.Common.{cond, eqb, ap, sym}
use Rattle.record_memory.specs.declared.books.Setup.{Setup}
use Rattle.record_memory.specs.Memory.{word_at}
use Rattle.record_memory.specs.declared.steps.StepKind.TheVariants.{Exchange}
use Rattle.record_rule.proofs.Epochs.{exchanges_control}
use Rattle.record_table.proofs.Recording.{adds_noted}
use Rattle.record_table.proofs.table.Table.exchange_control.Goals as goal

pub exchange-found-requires-clause-lawful : goal.exchange-found-requires-clause-lawful
exchange-found-requires-clause-lawful g c = exchanges_control g.S.Shape.facts g.R.Cover.facts g.R.Cover.laws _ _ c.args.word c.args.expected c.args.new c.args.pass.now.seat.me.0 c.requires.pass.present c.requires.pass.setup c.requires.allowed

pub exchange-found-requires-clause-recorded : goal.exchange-found-requires-clause-recorded
exchange-found-requires-clause-recorded g c = λ n w t. adds_noted c.args.pass.now.seat.me.0 Exchange _ c.args.word n (cond (eqb n c.args.expected) c.args.new n) w (ap (λ (k : Setup). word_at k.callers c.args.word) (sym c.requires.pass.setup)) t
