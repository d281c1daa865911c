use Rattle.record_table.specs.Handles.{view}
use Rattle.manager.proofs.NodeSteps.{LeavesAll, inside_still, chains_still, stock_still, counts_left, store_leaves}
use Rattle.std.proofs.Common.{ap, ◌∙◌}
use Rattle.record_memory.specs.declared.books.View.{View}
use Rattle.record_rule.specs.Kinds.{stored_as}
use Rattle.reclaim_api.proofs.Keeping.{keeps_same}
use Rattle.manager.proofs.StepKeeps.{began}
use Rattle.manager.proofs.Owns.{owns_store}
use Rattle.manager.proofs.steps.store_own.Goals as goal

-- what it leaves
leaves : (g : _) (c : goal.After-store_own g) → LeavesAll g.R.Cover.facts (view c.args.caller.now.pass) (view c.store_own.new.pass)
leaves g c = store_leaves g.R.Cover.facts (view c.args.caller.now.pass) (view c.store_own.new.pass) c.args.own.now c.args.word _ c.requires.own c.store_own.ensures.step

pub returns-clause-caller : goal.returns-clause-caller
returns-clause-caller g c = let a = c.args.caller.now in let q = c.store_own.new.pass in let same = c.store_own.ensures.pass in let l = leaves g c in record {
  inside = inside_still g.R.Scheme.is_local a.pass q same a.local a.free a.spare g.met.R.Scheme.local_stays l c.requires.caller.inside;
  chains = chains_still g.R.Scheme.is_local a.pass q same a.local a.free a.spare g.met.R.Scheme.local_stays l c.requires.caller.chains;
  counts = counts_left g.R.Cover.facts _ _ a.moved l c.requires.caller.counts;
}

pub returns-clause-keeps : goal.returns-clause-keeps
returns-clause-keeps g c = let a = c.args.caller.now in let q = c.store_own.new.pass in let same = c.store_own.ensures.pass in let e = c.store_own.ensures.step ∙ ap (stored_as (view a.pass) c.args.own.now.index c.args.word _) c.requires.own.1.known in
    keeps_same a.pass q (began a.pass q same) same.setup (ap (λ (x : View). x.own.guard) e) (ap (λ (x : View). x.own.notes) e) (ap (λ (x : View). x.seen_updates) e)

pub returns-clause-answers : goal.returns-clause-answers
returns-clause-answers g c = let e = c.store_own.ensures.step ∙ ap (stored_as (view c.args.caller.now.pass) c.args.own.now.index c.args.word _) c.requires.own.1.known in record { answered = ap (λ (x : View). x.own.answered) e; front = ap (λ (x : View). x.front) e }

pub returns-clause-owns : goal.returns-clause-owns
returns-clause-owns g c = owns_store _ _ c.args.own.now c.args.word _ c.requires.own c.store_own.ensures.step

pub returns-clause-stock : goal.returns-clause-stock
returns-clause-stock g c = let a = c.args.caller.now in stock_still g.R.Scheme.is_local a.pass c.store_own.new.pass c.store_own.ensures.pass a.local a.free a.spare g.met.R.Scheme.local_stays (leaves g c) c.requires.caller.chains
