use Rattle.table_tests.proofs.Fresh.{rest_fresh, last_pass, last_outside, last_fresh}
use Rattle.table_tests.proofs.closing.take_last.Goals as goal

pub returns-clause-rest : goal.returns-clause-rest
returns-clause-rest c = rest_fresh _ _ _ _ _ c.pop.ensures.items c.requires

pub returns-clause-pass : goal.returns-clause-pass
returns-clause-pass c = last_pass _ _ _ _ _ c.pop.ensures.items c.requires

pub returns-clause-fresh : goal.returns-clause-fresh
returns-clause-fresh c = last_fresh _ _ _ _ _ c.pop.ensures.items c.requires

pub returns-clause-outside : goal.returns-clause-outside
returns-clause-outside c = last_outside _ _ _ _ _ c.pop.ensures.items c.requires
