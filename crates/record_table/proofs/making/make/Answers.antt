use Rattle.record_table.proofs.Closings.{all_fresh}
use Rattle.record_table.proofs.making.make.Goals as goal

pub returns-clause-passes : goal.returns-clause-passes
returns-clause-passes g c = all_fresh _ _ _ c.in_ok-passes.ensures
