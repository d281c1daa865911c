use Rattle.record_rule.proofs.Seats.{splits}
use Rattle.record_table.proofs.table.Table.split_pass.Goals as goal

pub split-seat-requires-clause-splits : goal.split-seat-requires-clause-splits
split-seat-requires-clause-splits g c = let n = c.requires.next in splits _ _ _ _ _ n.0 n.1 c.requires.pass.present n.2
