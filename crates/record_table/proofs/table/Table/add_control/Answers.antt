use Rattle.std.proofs.Common.{ap}
use Rattle.record_memory.specs.Memory.{word_at}
use Rattle.record_rule.proofs.Draws.{draws_at}
use Rattle.record_table.proofs.Recording.{adds_draw}
use Rattle.record_table.proofs.table.Table.add_control.Goals as goal

pub add-requires-clause-lawful : goal.add-requires-clause-lawful
add-requires-clause-lawful g c = draws_at _ c.args.self.now.numbers c.requires.bump _ _ _ c.args.pass.now.seat.me.0 c.args.word c.requires.drawn c.requires.pass.present c.requires.below

pub add-requires-clause-recorded : goal.add-requires-clause-recorded
add-requires-clause-recorded g c = λ n w t. adds_draw c.args.pass.now.seat.me.0 _ n w (ap (word_at c.args.self.now.board.shared.key.callers) c.requires.drawn) t.0 t.2
