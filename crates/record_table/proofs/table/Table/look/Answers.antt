use Rattle.std.proofs.Common.{arith}
use Rattle.record_rule.proofs.Meetings.{looks}
use Rattle.record_table.proofs.table.Table.look.Goals as goal

pub load-requires : goal.load-requires
load-requires g c = (c.requires.table, (let w = c.args.self.now.sized in omega arith), looks _ _ _ _ _ _ _)
