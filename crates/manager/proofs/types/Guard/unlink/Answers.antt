use Rattle.std.proofs.Common.{◌<◌, ap, sym, ◌∙◌, arith}
use Rattle.record_memory.specs.declared.books.Setup.{Setup}
use Rattle.record_table.specs.Handles.{view}
use Rattle.record_table.specs.Nodes.{origin}
use Rattle.manager.proofs.Dids.{unlink_does, taken_ok}
use Rattle.manager.proofs.KeepLocks.{unlink_locks}
use Rattle.manager.proofs.types.Guard.unlink.Goals as goal

-- the table has records
some : (g : _) (c : goal.After-self-1 g) → 0 < (view c.args.self.now.caller.now.pass).setup.records
some g c = let e = c.unlink.ensures in let k = c.args.self.now.manager.now.table.numbers in let f = ap (λ (x : Setup). x.records) (sym e.pass.setup ∙ e.of.setup) in let a = k.roots in let b = k.rooted in omega arith

pub returns-clause-did : goal.returns-clause-did
returns-clause-did g c = let e = c.unlink.ensures in unlink_does _ g.S.Shape.facts _ _ _ (sym e.pass.setup ∙ e.of.setup) e.stock c.args.node c.args.gone.target c.args.new (some g c) c.unlink.result e.step

pub returns-clause-taken : goal.returns-clause-taken
returns-clause-taken g c = let e = c.unlink.ensures in
    taken_ok g.S.Shape.facts _ _ (origin c.args.node) c.args.gone.target c.args.new (some g c) c.unlink.result e.step

pub returns-clause-locks : goal.returns-clause-locks
returns-clause-locks g c = unlink_locks _ _ g.S.Shape.facts (origin c.args.node) c.args.gone.target c.args.new c.unlink.result c.unlink.ensures.step
