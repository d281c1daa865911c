use Rattle.std.proofs.Common.{◌+◌, ◌*◌}
use Rattle.record_table.specs.Handles.{view}
use Rattle.reclaim_debra.proofs.Stores.{store_bags}
use Rattle.reclaim_debra.proofs.entering.announce.Goals as goal

pub returns-clause-bags : goal.returns-clause-bags
returns-clause-bags g c = let s = c.store_own.ensures.stored in store_bags (view c.args.pass.now) (view c.store_own.new.pass) (2 * c.args.bags.now.reading + 1) s.0 s.1 c.args.bags.now c.requires.bags
