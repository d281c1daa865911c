use Rattle.std.proofs.Common.{ap, arith}
use Rattle.record_memory.specs.declared.books.Setup.{Setup}
use Rattle.record_table.specs.Handles.{view}
use Rattle.record_table.specs.Nodes.{origin}
use Rattle.reclaim_api.proofs.Keeping.{keeps_unlink}
use Rattle.manager.proofs.NodeSteps.{LeavesAll, inside_still, chains_still, stock_still, counts_left, out_leaves}
use Rattle.manager.proofs.StepKeeps.{began, out_answers, out_owns}
use Rattle.manager.proofs.Locks.{locked_target}
use Rattle.manager.proofs.locking.unlink_locked.Goals as goal

-- what it leaves
leaves : (g : _) (c : goal.After-unlink_locked g) → LeavesAll g.R.Cover.facts (view c.args.caller.now.pass) (view c.unlink_locked.new.pass)
leaves g c = let s = c.unlink_locked.ensures.step in out_leaves g.R.Cover.facts (view c.args.caller.now.pass) (view c.unlink_locked.new.pass) g.S.Shape.facts (origin c.args.node) s.0 c.args.gone.target c.args.new (let k = c.args.table.now.numbers in let e = ap (λ (x : Setup). x.records) c.requires.of.setup in let a = k.roots in let b = k.rooted in omega arith) s.2

pub returns-clause-caller : goal.returns-clause-caller
returns-clause-caller g c = let a = c.args.caller.now in let q = c.unlink_locked.new.pass in let same = c.unlink_locked.ensures.pass in let l = leaves g c in record {
  inside = inside_still g.R.Scheme.is_local a.pass q same a.local a.free a.spare g.met.R.Scheme.local_stays l c.requires.caller.inside;
  chains = chains_still g.R.Scheme.is_local a.pass q same a.local a.free a.spare g.met.R.Scheme.local_stays l c.requires.caller.chains;
  counts = counts_left g.R.Cover.facts _ _ a.moved l c.requires.caller.counts;
}

pub returns-clause-keeps : goal.returns-clause-keeps
returns-clause-keeps g c = let a = c.args.caller.now in let e = c.unlink_locked.ensures in keeps_unlink a.pass c.unlink_locked.new.pass (began a.pass c.unlink_locked.new.pass e.pass) g.S.Shape.facts (origin c.args.node) e.step.0 c.args.gone.target c.args.new e.pass.setup e.step.2

pub returns-clause-answers : goal.returns-clause-answers
returns-clause-answers g c = let e = c.unlink_locked.ensures in out_answers c.args.caller.now.pass c.unlink_locked.new.pass e.pass g.S.Shape.facts (origin c.args.node) e.step.0 c.args.gone.target c.args.new e.step.2

pub returns-clause-owns : goal.returns-clause-owns
returns-clause-owns g c = let e = c.unlink_locked.ensures in out_owns c.args.caller.now.pass c.unlink_locked.new.pass e.pass g.S.Shape.facts (origin c.args.node) e.step.0 c.args.gone.target c.args.new e.step.2

pub returns-clause-stock : goal.returns-clause-stock
returns-clause-stock g c = let a = c.args.caller.now in stock_still g.R.Scheme.is_local a.pass c.unlink_locked.new.pass c.unlink_locked.ensures.pass a.local a.free a.spare g.met.R.Scheme.local_stays (leaves g c) c.requires.caller.chains

pub returns-clause-step : goal.returns-clause-step
returns-clause-step g c = let a = c.requires.allowed in locked_target g.S.Shape.facts _ _ (origin c.args.node) a.0 c.args.gone.target c.args.new a.1 a.2 c.unlink_locked.ensures.step
