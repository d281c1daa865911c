use Rattle.record_table.specs.Handles.{view}
use Rattle.record_table.specs.Nodes.{origin}
use Rattle.reclaim_api.proofs.Keeping.{keeps_exchange}
use Rattle.manager.proofs.NodeSteps.{LeavesAll, inside_still, chains_still, stock_still, counts_left, left_leaves}
use Rattle.manager.proofs.StepKeeps.{began, left_answers, left_owns}
use Rattle.manager.proofs.locking.store_link.Goals as goal

-- what it leaves
leaves : (g : _) (c : goal.After-store_link g) → LeavesAll g.R.Cover.facts (view c.args.caller.now.pass) (view c.store_link.new.pass)
leaves g c = let s = c.store_link.ensures.step in left_leaves g.R.Cover.facts (view c.args.caller.now.pass) (view c.store_link.new.pass) g.S.Shape.facts (origin c.args.node) s.0 c.args.new c.args.decides s.2

pub returns-clause-caller : goal.returns-clause-caller
returns-clause-caller g c = let a = c.args.caller.now in let q = c.store_link.new.pass in let same = c.store_link.ensures.pass in let l = leaves g c in record {
  inside = inside_still g.R.Scheme.is_local a.pass q same a.local a.free a.spare g.met.R.Scheme.local_stays l c.requires.caller.inside;
  chains = chains_still g.R.Scheme.is_local a.pass q same a.local a.free a.spare g.met.R.Scheme.local_stays l c.requires.caller.chains;
  counts = counts_left g.R.Cover.facts _ _ a.moved l c.requires.caller.counts;
}

pub returns-clause-keeps : goal.returns-clause-keeps
returns-clause-keeps g c = let a = c.args.caller.now in let e = c.store_link.ensures in keeps_exchange a.pass c.store_link.new.pass (began a.pass c.store_link.new.pass e.pass) g.S.Shape.facts (origin c.args.node) e.step.0 c.args.new c.args.decides e.pass.setup e.step.2

pub returns-clause-answers : goal.returns-clause-answers
returns-clause-answers g c = let e = c.store_link.ensures in left_answers c.args.caller.now.pass c.store_link.new.pass e.pass g.S.Shape.facts (origin c.args.node) e.step.0 c.args.new c.args.decides e.step.2

pub returns-clause-owns : goal.returns-clause-owns
returns-clause-owns g c = let e = c.store_link.ensures in left_owns c.args.caller.now.pass c.store_link.new.pass e.pass g.S.Shape.facts (origin c.args.node) e.step.0 c.args.new c.args.decides e.step.2

pub returns-clause-stock : goal.returns-clause-stock
returns-clause-stock g c = let a = c.args.caller.now in stock_still g.R.Scheme.is_local a.pass c.store_link.new.pass c.store_link.ensures.pass a.local a.free a.spare g.met.R.Scheme.local_stays (leaves g c) c.requires.caller.chains
