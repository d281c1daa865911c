use Rattle.std.proofs.Common.{ap, ◌∙◌, arith}
use Rattle.record_memory.specs.declared.books.Setup.{Setup}
use Rattle.record_memory.specs.declared.steps.Word.TheVariants.{Field}
use Rattle.record_memory.specs.Memory.{address, word_at}
use Rattle.record_memory.proofs.Stores.{word_at-field}
use Rattle.record_table.proofs.table.Table.address_of.Goals as goal

pub returns-clause-place : goal.returns-clause-place
returns-clause-place g c = c.field_of.ensures ∙ ap (λ (k : Setup). address k.callers (Field c.args.index c.args.field)) c.args.self.now.setup_is

pub returns-clause-named : goal.returns-clause-named
returns-clause-named g c = ap (word_at c.args.self.now.board.shared.key.callers) (returns-clause-place g c) ∙ word_at-field c.args.self.now.board.shared.key.callers c.args.self.now.board.shared.key.records c.args.index c.args.field c.requires.index.0 c.requires.field

pub returns-clause-within : goal.returns-clause-within
returns-clause-within g c = let p = returns-clause-place g c in let i = c.requires.index in let f = c.requires.field in omega arith
