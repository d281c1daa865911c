use Rattle.std.proofs.Common.{sym, ◌∙◌}
use Rattle.manager.proofs.Dids.{publish_does}
use Rattle.record_table.specs.Nodes.{origin}
use Rattle.manager.proofs.KeepLocks.{publish_locks}
use Rattle.manager.proofs.types.Guard.publish.Goals as goal

pub returns-clause-did : goal.returns-clause-did
returns-clause-did g c = let e = c.publish.ensures in publish_does _ g.S.Shape.facts _ _ _ (sym e.pass.setup ∙ e.of.setup) e.stock c.args.node c.args.expected c.args.own _ c.args.decides c.requires.allowed.2 c.publish.result e.step

pub returns-clause-locks : goal.returns-clause-locks
returns-clause-locks g c = publish_locks _ _ g.S.Shape.facts (origin c.args.node) c.args.expected c.args.own c.args.decides c.publish.result c.publish.ensures.step
