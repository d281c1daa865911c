use Rattle.std.proofs.Common.{sym, ◌∙◌}
use Rattle.manager.proofs.Dids.{stored_does}
use Rattle.manager.proofs.types.Guard.store_link.Goals as goal

pub returns-clause-did : goal.returns-clause-did
returns-clause-did g c = let e = c.store_link.ensures in let s = e.step in (s.0, s.1, stored_does _ g.S.Shape.facts _ _ _ (sym e.pass.setup ∙ e.of.setup) e.stock c.args.node s.0 c.args.new c.args.decides s.2)
