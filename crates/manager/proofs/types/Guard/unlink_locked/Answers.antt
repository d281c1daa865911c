use Rattle.std.proofs.Common.{◌<◌, ap, sym, ◌∙◌, subst, arith}
use Rattle.record_memory.specs.declared.books.Setup.{Setup}
use Rattle.record_memory.specs.declared.books.Share.{Share}
use Rattle.row_words.specs.Refs.{RefParts}
use Rattle.record_rule.specs.Links.{HasTaken}
use Rattle.record_table.specs.Handles.{view}
use Rattle.record_table.specs.Nodes.{origin}
use Rattle.manager.proofs.Dids.{out_does, taken_now}
use Rattle.manager.proofs.types.Guard.unlink_locked.Goals as goal

-- the table has records
some : (g : _) (c : goal.After-self-1 g) → 0 < (view c.args.self.now.caller.now.pass).setup.records
some g c = let e = c.unlink_locked.ensures in let k = c.args.self.now.manager.now.table.numbers in let f = ap (λ (x : Setup). x.records) (sym e.pass.setup ∙ e.of.setup) in let a = k.roots in let b = k.rooted in omega arith

pub returns-clause-did : goal.returns-clause-did
returns-clause-did g c = let e = c.unlink_locked.ensures in let s = e.step in (s.0, s.1, out_does _ g.S.Shape.facts _ _ _ (sym e.pass.setup ∙ e.of.setup) e.stock c.args.node s.0 c.args.gone.target c.args.new (some g c) s.2 s.3)

pub returns-clause-taken : goal.returns-clause-taken
returns-clause-taken g c = let e = c.unlink_locked.ensures in let s = e.step in
    subst (λ (x : RefParts). (h : Share) × HasTaken (view c.unlink_locked.new.caller.pass) x h) (sym e.record) (taken_now g.S.Shape.facts _ _ (origin c.args.node) s.0 c.args.gone.target c.args.new (some g c) s.3)
