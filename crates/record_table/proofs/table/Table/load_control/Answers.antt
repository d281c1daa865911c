use Rattle.std.proofs.Common.{ℕ, ◌<◌, ap, sym, arith}
use Rattle.record_memory.specs.declared.books.Setup.{Setup}
use Rattle.record_memory.specs.Memory.{word_at, controls, size}
use Rattle.record_rule.proofs.Controls.{loads_by}
use Rattle.record_table.proofs.Recording.{adds_by_word}
use Rattle.record_table.specs.Handles.{setup_of}
use Rattle.record_table.proofs.table.Table.load_control.Goals as goal

-- a control word lies in the table
in_table : (callers records word : ℕ) → word < controls callers → word < size callers records
in_table callers records word h = omega arith

pub load-requires-clause-lawful : goal.load-requires-clause-lawful
load-requires-clause-lawful g c = let k : Setup = setup_of c.args.self.now in
    loads_by g.S.Shape.facts g.R.Cover.facts g.S.Shape.laws g.R.Cover.laws _ _ c.args.word c.args.pass.now.seat.me.0 c.requires.pass.present c.requires.pass.setup (in_table k.callers k.records c.args.word c.requires.control)

pub load-requires-clause-recorded : goal.load-requires-clause-recorded
load-requires-clause-recorded g c = λ n w t. adds_by_word g.R.Cover.facts c.args.pass.now.seat.me.0 _ c.args.word n w (ap (λ (k : Setup). word_at k.callers c.args.word) (sym c.requires.pass.setup)) t.0
