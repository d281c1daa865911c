use Rattle.std.proofs.Common.{sym, ◌∙◌}
use Rattle.manager.proofs.Dids.{exchange_does}
use Rattle.record_table.specs.Nodes.{origin}
use Rattle.manager.proofs.KeepLocks.{exchange_locks}
use Rattle.manager.proofs.types.Guard.exchange_link.Goals as goal

pub returns-clause-did : goal.returns-clause-did
returns-clause-did g c = let e = c.exchange_link.ensures in exchange_does _ g.S.Shape.facts _ _ _ (sym e.pass.setup ∙ e.of.setup) e.stock c.args.node c.args.expected c.args.new c.args.decides c.exchange_link.result e.step

pub returns-clause-locks : goal.returns-clause-locks
returns-clause-locks g c = exchange_locks _ _ g.S.Shape.facts (origin c.args.node) c.args.expected c.args.new c.args.decides c.exchange_link.result c.exchange_link.ensures.step
