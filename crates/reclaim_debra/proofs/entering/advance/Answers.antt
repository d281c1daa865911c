use Rattle.record_table.specs.Handles.{view}
use Rattle.reclaim_debra.proofs.Stores.{tried_once, tried_bags}
use Rattle.reclaim_debra.proofs.entering.advance.Goals as goal

pub returns-then-bags-lt-LAST_EPOCH-clause-tried : goal.returns-then-bags-lt-LAST_EPOCH-clause-tried
returns-then-bags-lt-LAST_EPOCH-clause-tried g c = tried_once (view c.args.pass.now) (view c.exchange_control-outcome.new.pass) c.args.bags.now.reading c.exchange_control-outcome.result c.if-bags-lt-LAST_EPOCH.true c.exchange_control-outcome.ensures.step

pub returns-then-bags-lt-LAST_EPOCH-clause-bags : goal.returns-then-bags-lt-LAST_EPOCH-clause-bags
returns-then-bags-lt-LAST_EPOCH-clause-bags g c = tried_bags c.args.bags.now (view c.args.pass.now) (view c.exchange_control-outcome.new.pass) c.args.bags.now.reading c.exchange_control-outcome.result c.exchange_control-outcome.ensures.step c.requires.bags
