use Rattle.std.proofs.Common.{ap, arith}
use Rattle.record_memory.specs.declared.books.Setup.{Setup}
use Rattle.record_table.specs.Handles.{view}
use Rattle.record_table.specs.Nodes.{origin}
use Rattle.manager.proofs.NodeSteps.{LeavesAll, inside_still, chains_still, stock_still, counts_left, unlink_leaves}
use Rattle.manager.proofs.StepKeeps.{unlink_keeps, unlink_answers, unlink_owns}
use Rattle.manager.proofs.steps.unlink.Goals as goal

-- what it leaves
leaves : (g : _) (c : goal.After-unlink g) → LeavesAll g.R.Cover.facts (view c.args.caller.now.pass) (view c.unlink.new.pass)
leaves g c =
    unlink_leaves g.R.Cover.facts (view c.args.caller.now.pass) (view c.unlink.new.pass) g.S.Shape.facts (origin c.args.node) c.args.gone.target c.args.new (let k = c.args.table.now.numbers in let e = ap (λ (x : Setup). x.records) c.requires.of.setup in let a = k.roots in let b = k.rooted in omega arith) c.unlink.result c.unlink.ensures.step

pub returns-clause-caller : goal.returns-clause-caller
returns-clause-caller g c = let a = c.args.caller.now in let q = c.unlink.new.pass in let same = c.unlink.ensures.pass in let l = leaves g c in record {
  inside = inside_still g.R.Scheme.is_local a.pass q same a.local a.free a.spare g.met.R.Scheme.local_stays l c.requires.caller.inside;
  chains = chains_still g.R.Scheme.is_local a.pass q same a.local a.free a.spare g.met.R.Scheme.local_stays l c.requires.caller.chains;
  counts = counts_left g.R.Cover.facts _ _ a.moved l c.requires.caller.counts;
}

pub returns-clause-keeps : goal.returns-clause-keeps
returns-clause-keeps g c = unlink_keeps c.args.caller.now.pass c.unlink.new.pass c.unlink.ensures.pass g.S.Shape.facts (origin c.args.node) c.args.gone.target c.args.new c.unlink.result c.unlink.ensures.step

pub returns-clause-answers : goal.returns-clause-answers
returns-clause-answers g c = unlink_answers c.args.caller.now.pass c.unlink.new.pass c.unlink.ensures.pass g.S.Shape.facts (origin c.args.node) c.args.gone.target c.args.new c.unlink.result c.unlink.ensures.step

pub returns-clause-owns : goal.returns-clause-owns
returns-clause-owns g c = unlink_owns c.args.caller.now.pass c.unlink.new.pass c.unlink.ensures.pass g.S.Shape.facts (origin c.args.node) c.args.gone.target c.args.new c.unlink.result c.unlink.ensures.step

pub returns-clause-stock : goal.returns-clause-stock
returns-clause-stock g c = let a = c.args.caller.now in stock_still g.R.Scheme.is_local a.pass c.unlink.new.pass c.unlink.ensures.pass a.local a.free a.spare g.met.R.Scheme.local_stays (leaves g c) c.requires.caller.chains
