use Rattle.record_rule.proofs.Meetings.{sends}
use Rattle.record_table.proofs.table.Table.send_front.Goals as goal

pub split-requires-clause-splits : goal.split-requires-clause-splits
split-requires-clause-splits g c = sends _ _ _ _ _
