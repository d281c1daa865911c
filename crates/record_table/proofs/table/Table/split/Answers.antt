use Rattle.std.proofs.Common.{arith}
use Rattle.record_table.proofs.table.Table.split.Goals as goal

pub split_seat-requires : goal.split_seat-requires
split_seat-requires g c = (c.requires.table, (let w = c.args.self.now.sized in omega arith), c.requires.splits)
