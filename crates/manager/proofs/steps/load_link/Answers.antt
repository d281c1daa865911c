use Rattle.std.proofs.Common.{◌+◌, ◌≤◌, ap, length, length-append, arith}
use Rattle.record_memory.specs.declared.books.View.{View}
use Rattle.record_table.specs.Handles.{view}
use Rattle.manager.proofs.NodeSteps.{LeavesAll, inside_still, chains_still, stock_still, counts_left, one_more, leaves_records}
use Rattle.record_memory.specs.declared.books.Setup.{Setup}
use Rattle.record_table.specs.Nodes.{origin, is_first}
use Rattle.reclaim_api.proofs.Keeping.{keeps_load}
use Rattle.manager.proofs.StepKeeps.{began}
use Rattle.manager.proofs.Owns.{owns_mine}
use Rattle.manager.proofs.steps.load_link.Goals as goal

-- what it leaves
leaves : (g : _) (c : goal.After-load_link g) → LeavesAll g.R.Cover.facts (view c.args.caller.now.pass) (view c.load_link.new.pass)
leaves g c = let told = c.load_link.ensures.step.2 in let e = told.view in let v : View = view c.args.caller.now.pass in let w : View = view c.load_link.new.pass in leaves_records g.R.Cover.facts v w _
    (record { first = is_first c.args.caller.now.pass; moment = record { epoch = told.epoch; taken_out = length w.seen_taken_out; updates = length w.seen_updates }; step = length v.own.steps + 1; guard = ap (λ (x : View). x.own.guard) e; made = omega (arith, one_more v.own.steps w.own.steps _ (ap (λ (x : View). x.own.steps) e)); behind = omega (arith, ap length told.whole.front.1, length-append v.front told.whole.front.0) })
    (omega (arith, ap (λ (x : View). length x.front) e))
    (ap (λ (x : View). x.own.mine) e) (ap (λ (x : View). x.own.moves) e) (ap (λ (x : View). x.own.steps) e)

pub returns-clause-caller : goal.returns-clause-caller
returns-clause-caller g c = let a = c.args.caller.now in let q = c.load_link.new.pass in let same = c.load_link.ensures.pass in let l = leaves g c in record {
  inside = inside_still g.R.Scheme.is_local a.pass q same a.local a.free a.spare g.met.R.Scheme.local_stays l c.requires.caller.inside;
  chains = chains_still g.R.Scheme.is_local a.pass q same a.local a.free a.spare g.met.R.Scheme.local_stays l c.requires.caller.chains;
  counts = counts_left g.R.Cover.facts _ _ a.moved l c.requires.caller.counts;
}

pub returns-clause-keeps : goal.returns-clause-keeps
returns-clause-keeps g c = let a = c.args.caller.now in let q = c.load_link.new.pass in let same = c.load_link.ensures.pass in
    keeps_load a.pass q (began a.pass q same) g.S.Shape.facts (origin c.args.node) g.R.Cover.facts _ same.setup c.load_link.ensures.step.2

pub returns-clause-answers : goal.returns-clause-answers
returns-clause-answers g c = let e = c.load_link.ensures.step.2.view in record { answered = ap (λ (x : View). x.own.answered) e; front = ap (λ (x : View). x.front) e }

pub returns-clause-owns : goal.returns-clause-owns
returns-clause-owns g c = owns_mine _ _ (ap (λ (k : Setup). k.records) c.load_link.ensures.pass.setup) (ap (λ (x : View). x.own.mine) c.load_link.ensures.step.2.view)

pub returns-clause-stock : goal.returns-clause-stock
returns-clause-stock g c = let a = c.args.caller.now in stock_still g.R.Scheme.is_local a.pass c.load_link.new.pass c.load_link.ensures.pass a.local a.free a.spare g.met.R.Scheme.local_stays (leaves g c) c.requires.caller.chains
