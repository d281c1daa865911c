use Rattle.record_table.specs.Handles.{view}
use Rattle.record_table.specs.Nodes.{origin}
use Rattle.reclaim_api.proofs.Keeping.{keeps_publish}
use Rattle.manager.proofs.NodeSteps.{LeavesAll, inside_still, chains_still, stock_still, counts_left, linked_leaves}
use Rattle.manager.proofs.StepKeeps.{began, linked_answers, linked_owns}
use Rattle.manager.proofs.locking.publish_locked.Goals as goal

-- what it leaves
leaves : (g : _) (c : goal.After-publish_locked g) → LeavesAll g.R.Cover.facts (view c.args.caller.now.pass) (view c.publish_locked.new.pass)
leaves g c = let s = c.publish_locked.ensures.step in linked_leaves g.R.Cover.facts (view c.args.caller.now.pass) (view c.publish_locked.new.pass) g.S.Shape.facts (origin c.args.node) s.0 c.args.own c.args.decides (c.requires.allowed.1, c.requires.allowed.4) s.2

pub returns-clause-caller : goal.returns-clause-caller
returns-clause-caller g c = let a = c.args.caller.now in let q = c.publish_locked.new.pass in let same = c.publish_locked.ensures.pass in let l = leaves g c in record {
  inside = inside_still g.R.Scheme.is_local a.pass q same a.local a.free a.spare g.met.R.Scheme.local_stays l c.requires.caller.inside;
  chains = chains_still g.R.Scheme.is_local a.pass q same a.local a.free a.spare g.met.R.Scheme.local_stays l c.requires.caller.chains;
  counts = counts_left g.R.Cover.facts _ _ a.moved l c.requires.caller.counts;
}

pub returns-clause-keeps : goal.returns-clause-keeps
returns-clause-keeps g c = let a = c.args.caller.now in let e = c.publish_locked.ensures in keeps_publish a.pass c.publish_locked.new.pass (began a.pass c.publish_locked.new.pass e.pass) g.S.Shape.facts (origin c.args.node) e.step.0 c.args.own c.args.decides e.pass.setup e.step.2

pub returns-clause-answers : goal.returns-clause-answers
returns-clause-answers g c = let e = c.publish_locked.ensures in linked_answers c.args.caller.now.pass c.publish_locked.new.pass e.pass g.S.Shape.facts (origin c.args.node) e.step.0 c.args.own c.args.decides e.step.2

pub returns-clause-owns : goal.returns-clause-owns
returns-clause-owns g c = let e = c.publish_locked.ensures in linked_owns c.args.caller.now.pass c.publish_locked.new.pass e.pass g.S.Shape.facts (origin c.args.node) e.step.0 c.args.own c.args.decides e.step.2

pub returns-clause-stock : goal.returns-clause-stock
returns-clause-stock g c = let a = c.args.caller.now in stock_still g.R.Scheme.is_local a.pass c.publish_locked.new.pass c.publish_locked.ensures.pass a.local a.free a.spare g.met.R.Scheme.local_stays (leaves g c) c.requires.caller.chains
