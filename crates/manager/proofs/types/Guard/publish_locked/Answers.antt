use Rattle.std.proofs.Common.{sym, ◌∙◌}
use Rattle.manager.proofs.Dids.{linked_does}
use Rattle.manager.proofs.types.Guard.publish_locked.Goals as goal

pub returns-clause-did : goal.returns-clause-did
returns-clause-did g c = let e = c.publish_locked.ensures in let s = e.step in (s.0, s.1, linked_does _ g.S.Shape.facts _ _ _ (sym e.pass.setup ∙ e.of.setup) e.stock c.args.node s.0 c.args.own _ c.args.decides c.requires.allowed.4 s.2)
