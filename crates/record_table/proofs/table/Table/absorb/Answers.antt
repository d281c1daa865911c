use Rattle.record_rule.proofs.Joins.{joins}
use Rattle.record_table.proofs.table.Table.absorb.Goals as goal

pub join-requires-clause-joins : goal.join-requires-clause-joins
join-requires-clause-joins g c = joins _ _ _ _ _ _ _ c.requires.into.present
