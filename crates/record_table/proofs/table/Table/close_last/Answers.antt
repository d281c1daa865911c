use Rattle.record_table.proofs.Ended.{one_history, closed_by}
use Rattle.record_table.proofs.table.Table.close_last.Goals as goal

pub returns-clause-one : goal.returns-clause-one
returns-clause-one g c = one_history _ _ _ _ _ c.end.ensures.end

pub returns-clause-fits : goal.returns-clause-fits
returns-clause-fits g c = closed_by _ _ g.S.Shape.laws _ _ c.end.result c.args.self.numbers c.end.ensures.setup c.end.ensures.view c.end.ensures.end c.requires.all
