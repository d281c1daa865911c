use Rattle.record_rule.proofs.Tying.{one_set, ties_something}
use Rattle.table_tests.proofs.sets.no_set_ties_nothing.Goals as goal

pub returns-clause-one : goal.returns-clause-one
returns-clause-one g c = one_set g.S.Shape.facts g.S.Shape.laws

pub returns-clause-none : goal.returns-clause-none
returns-clause-none g c = ties_something g.S.Shape.facts g.S.Shape.laws
