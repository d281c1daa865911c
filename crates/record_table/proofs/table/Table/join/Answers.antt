use Rattle.std.proofs.Common.{arith}
use Rattle.record_table.proofs.table.Table.join.Goals as goal

pub join_seat-requires : goal.join_seat-requires
join_seat-requires g c = (c.requires.table, c.requires.other.0, c.requires.other.1, (let w = c.args.self.now.sized in omega arith), c.requires.joins)
