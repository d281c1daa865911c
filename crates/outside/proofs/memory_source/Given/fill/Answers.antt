use Rattle.std.proofs.Common.{rules}
use Rattle.std.proofs.lemmas.List.{take_rest}
use Rattle.outside.proofs.Pieces.{drop-by_piece}
use Rattle.outside.proofs.memory_source.Given.fill.Goals as goal

pub returns-clause-next : goal.returns-clause-next
returns-clause-next c =
    drop-by_piece c.args.self.now.bytes.items c.copy_from_slice.new.self _ c.args.self.now.count c.min-count.result (search rules)
    (let h = c.copy_from_slice.ensures.after in rw (c.deref.ensures.value, take_rest) at h)
