use Rattle.std.proofs.Common.{◌≤◌, length, ap, arith}
use Rattle.std.proofs.lemmas.List.{length-take-le}
use Rattle.record_memory.specs.declared.books.View.{View}
use Rattle.record_table.specs.Handles.{view}
use Rattle.reclaim_api.proofs.Kept.{goes_on}
use Rattle.manager.proofs.NodeSteps.{LeavesAll, inside_still, chains_still, stock_still, counts_left, leaves_records}
use Rattle.record_memory.specs.declared.books.Setup.{Setup}
use Rattle.reclaim_api.proofs.Keeping.{keeps_same}
use Rattle.manager.proofs.StepKeeps.{began}
use Rattle.manager.proofs.Owns.{owns_mine}
use Rattle.manager.proofs.steps.place.Goals as goal

-- what it leaves
leaves : (g : _) (c : goal.After-place g) → LeavesAll g.R.Cover.facts (view c.args.caller.now.pass) (view c.place.new.pass)
leaves g c = let e = c.place.ensures.placed.1 in let v : View = view c.args.caller.now.pass in let w : View = view c.place.new.pass in
    leaves_records g.R.Cover.facts v w _ (goes_on g.R.Cover.facts v w (ap (λ (x : View). x.own.guard) e)) (let may = c.requires.1.1.1.1.1.1.may in omega (arith, ap (λ (x : View). length x.front) e, length-take-le g.position v.seen_updates may.within, may.behind)) (ap (λ (x : View). x.own.mine) e) (ap (λ (x : View). x.own.moves) e) (ap (λ (x : View). x.own.steps) e)

pub returns-clause-caller : goal.returns-clause-caller
returns-clause-caller g c = let a = c.args.caller.now in let q = c.place.new.pass in let same = c.place.ensures.pass in let l = leaves g c in record {
  inside = inside_still g.R.Scheme.is_local a.pass q same a.local a.free a.spare g.met.R.Scheme.local_stays l c.requires.1.1.1.1.0.inside;
  chains = chains_still g.R.Scheme.is_local a.pass q same a.local a.free a.spare g.met.R.Scheme.local_stays l c.requires.1.1.1.1.0.chains;
  counts = counts_left g.R.Cover.facts _ _ a.moved l c.requires.1.1.1.1.0.counts;
}

pub returns-clause-keeps : goal.returns-clause-keeps
returns-clause-keeps g c = let a = c.args.caller.now in let q = c.place.new.pass in let same = c.place.ensures.pass in let e = c.place.ensures.placed.1 in
    keeps_same a.pass q (began a.pass q same) same.setup (ap (λ (x : View). x.own.guard) e) (ap (λ (x : View). x.own.notes) e) (ap (λ (x : View). x.seen_updates) e)

pub returns-clause-owns : goal.returns-clause-owns
returns-clause-owns g c = owns_mine _ _ (ap (λ (k : Setup). k.records) c.place.ensures.pass.setup) (ap (λ (x : View). x.own.mine) c.place.ensures.placed.1)

pub returns-clause-stock : goal.returns-clause-stock
returns-clause-stock g c = let a = c.args.caller.now in stock_still g.R.Scheme.is_local a.pass c.place.new.pass c.place.ensures.pass a.local a.free a.spare g.met.R.Scheme.local_stays (leaves g c) c.requires.1.1.1.1.0.chains
