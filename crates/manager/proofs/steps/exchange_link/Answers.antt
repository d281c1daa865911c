use Rattle.record_table.specs.Handles.{view}
use Rattle.record_table.specs.Nodes.{origin}
use Rattle.manager.proofs.NodeSteps.{LeavesAll, inside_still, chains_still, stock_still, counts_left, exchange_leaves}
use Rattle.manager.proofs.StepKeeps.{exchange_keeps, exchange_answers, exchange_owns}
use Rattle.manager.proofs.steps.exchange_link.Goals as goal

-- what it leaves
leaves : (g : _) (c : goal.After-exchange_link g) → LeavesAll g.R.Cover.facts (view c.args.caller.now.pass) (view c.exchange_link.new.pass)
leaves g c = exchange_leaves g.R.Cover.facts (view c.args.caller.now.pass) (view c.exchange_link.new.pass) g.S.Shape.facts (origin c.args.node) c.args.expected c.args.new c.args.decides c.exchange_link.result c.exchange_link.ensures.step

pub returns-clause-caller : goal.returns-clause-caller
returns-clause-caller g c = let a = c.args.caller.now in let q = c.exchange_link.new.pass in let same = c.exchange_link.ensures.pass in let l = leaves g c in record {
  inside = inside_still g.R.Scheme.is_local a.pass q same a.local a.free a.spare g.met.R.Scheme.local_stays l c.requires.caller.inside;
  chains = chains_still g.R.Scheme.is_local a.pass q same a.local a.free a.spare g.met.R.Scheme.local_stays l c.requires.caller.chains;
  counts = counts_left g.R.Cover.facts _ _ a.moved l c.requires.caller.counts;
}

pub returns-clause-keeps : goal.returns-clause-keeps
returns-clause-keeps g c = exchange_keeps c.args.caller.now.pass c.exchange_link.new.pass c.exchange_link.ensures.pass g.S.Shape.facts (origin c.args.node) c.args.expected c.args.new c.args.decides c.exchange_link.result c.exchange_link.ensures.step

pub returns-clause-answers : goal.returns-clause-answers
returns-clause-answers g c = exchange_answers c.args.caller.now.pass c.exchange_link.new.pass c.exchange_link.ensures.pass g.S.Shape.facts (origin c.args.node) c.args.expected c.args.new c.args.decides c.exchange_link.result c.exchange_link.ensures.step

pub returns-clause-owns : goal.returns-clause-owns
returns-clause-owns g c = exchange_owns c.args.caller.now.pass c.exchange_link.new.pass c.exchange_link.ensures.pass g.S.Shape.facts (origin c.args.node) c.args.expected c.args.new c.args.decides c.exchange_link.result c.exchange_link.ensures.step

pub returns-clause-stock : goal.returns-clause-stock
returns-clause-stock g c = let a = c.args.caller.now in stock_still g.R.Scheme.is_local a.pass c.exchange_link.new.pass c.exchange_link.ensures.pass a.local a.free a.spare g.met.R.Scheme.local_stays (leaves g c) c.requires.caller.chains
