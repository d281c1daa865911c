use Rattle.std.proofs.Common.{◌-◌, ap, ◌∙◌, subst, refl, arith}
use Rattle.record_memory.specs.declared.books.Setup.{Setup}
use Rattle.record_memory.specs.declared.books.View.{View}
use Rattle.row_words.specs.declared.links.Chain.{Chain}
use Rattle.record_memory.specs.declared.books.Standing.TheVariants.{Free}
use Rattle.record_table.specs.Handles.{view, same_then}
use Rattle.reclaim_api.proofs.Kept.{as_stays}
use Rattle.manager.proofs.Stay.{mine_stays}
use Rattle.pool.specs.Calls.{Gives}
use Rattle.pool.specs.declared.Given.TheVariants.{Kept}
use Rattle.manager.proofs.CutChains.{last_was, last_is, cut_free, cut_full, cut_rest, cut_apart, cut_idle, cut_steps, back_is, back_list, back_idle, back_steps}
use Rattle.manager.proofs.FreeSteps.{free_away, gives_mine, gives_store}
use Rattle.manager.proofs.Losing.{gives_lost, lost_idle, lost_chain}
use Rattle.manager.proofs.FreeGivings.{gives_then, gives_works}
use Rattle.manager.proofs.giving.give_first.Goals as goal

pub store_next-requires-clause-owned : goal.store_next-requires-clause-owned
store_next-requires-clause-owned g c =
    let a = c.args.caller.now in let e = c.go_along-last.ensures in let v : View = view a.pass in let u : View = view c.go_along-last.new.pass in let r = c.go_along-last.result.0 in
    free_away u r (last_is v u u a.free r c.go_along-last.result.1 0 (ap (λ (k : Setup). k.records) e.pass.setup) c.requires.caller.chains.frees c.requires.enough e.along)

pub give-requires-clause-full : goal.give-requires-clause-full
give-requires-clause-full g c =
    let a = c.args.caller.now in let e = c.go_along-last.ensures in let s = c.store_next.ensures in let v : View = view a.pass in let u : View = view c.go_along-last.new.pass in let w : View = view c.store_next.new.pass in let r = c.go_along-last.result.0 in
    cut_full v u w a.free r c.go_along-last.result.1 _ (ap (λ (k : Setup). k.records) e.pass.setup) c.requires.caller.chains.frees c.requires.enough e.along s.step s.row s.others

pub store_next-requires-in-Kept-clause-owned : goal.store_next-requires-in-Kept-clause-owned
store_next-requires-in-Kept-clause-owned g c =
    let a = c.args.caller.now in let e = c.go_along-last.ensures in let s = c.store_next.ensures in let v : View = view a.pass in let u : View = view c.go_along-last.new.pass in let w : View = view c.store_next.new.pass in let x : View = view c.give.new.pass in
    let r = c.go_along-last.result.0 in let next = c.go_along-last.result.1 in let records = ap (λ (k : Setup). k.records) e.pass.setup in let list = c.requires.caller.chains.frees in let chain : Chain = record { head = a.free.head; count = 32 } in
    let t = subst (Gives g.P.Pool.SHELVES g.P.Pool.busy w x chain) c.in-Kept.is c.give.ensures.gives in
    free_away x r (as_stays Free w x (ap (λ (k : Setup). k.records) c.give.ensures.pass.setup) (mine_stays Free w x t.answer.1) r (cut_free v u w a.free r next _ records list c.requires.enough e.along s.step s.row s.others r (last_was v u w a.free r next 0 records list c.requires.enough e.along)))

pub returns-in-Done-clause-free : goal.returns-in-Done-clause-free
returns-in-Done-clause-free g c =
    let a = c.args.caller.now in let e = c.go_along-last.ensures in let s = c.store_next.ensures in let v : View = view a.pass in let u : View = view c.go_along-last.new.pass in let w : View = view c.store_next.new.pass in let x : View = view c.give.new.pass in
    let r = c.go_along-last.result.0 in let next = c.go_along-last.result.1 in let records = ap (λ (k : Setup). k.records) e.pass.setup in let list = c.requires.caller.chains.frees in let chain : Chain = record { head = a.free.head; count = 32 } in
    let full = cut_full v u w a.free r next _ records list c.requires.enough e.along s.step s.row s.others in
    let t = subst (Gives g.P.Pool.SHELVES g.P.Pool.busy w x chain) c.in-Done.is c.give.ensures.gives in
    gives_then v u x (gives_mine v u _ e.along.made e.along.mine e.along.moves) (gives_then u w x (gives_store u w r _ (last_is v u w a.free r next 0 records list c.requires.enough e.along) s.step) (gives_lost w x chain full t.answer.0 t.steps t.made t.moves))

pub returns-in-Done-clause-caller : goal.returns-in-Done-clause-caller
returns-in-Done-clause-caller g c =
    let a = c.args.caller.now in let e = c.go_along-last.ensures in let s = c.store_next.ensures in let v : View = view a.pass in let u : View = view c.go_along-last.new.pass in let w : View = view c.store_next.new.pass in let x : View = view c.give.new.pass in
    let r = c.go_along-last.result.0 in let next = c.go_along-last.result.1 in let records = ap (λ (k : Setup). k.records) e.pass.setup in let list = c.requires.caller.chains.frees in let chain : Chain = record { head = a.free.head; count = 32 } in
    let full = cut_full v u w a.free r next _ records list c.requires.enough e.along s.step s.row s.others in
    let t = subst (Gives g.P.Pool.SHELVES g.P.Pool.busy w x chain) c.in-Done.is c.give.ensures.gives in
    let q = c.give.new.pass in let same = same_then a.pass c.go_along-last.new.pass q e.pass (same_then c.go_along-last.new.pass c.store_next.new.pass q s.pass c.give.ensures.pass) in
    gives_works g.R.Scheme.is_local a.pass q a.local a.free a.spare (record { head = next; count = a.free.count - 32 }) a.moved same g.met.R.Scheme.local_stays (returns-in-Done-clause-free g c) c.requires.caller
    (lost_chain w x chain full t.answer.0 (record { head = next; count = a.free.count - 32 }) (ap (λ (k : Setup). k.records) c.give.ensures.pass.setup) (cut_rest v u w a.free r next _ records list c.requires.enough e.along s.step s.row s.others)
    (cut_apart v u w a.free r next _ records list c.requires.enough e.along s.step s.row s.others))
    (omega (arith, lost_idle w x chain full t.answer.0, cut_idle v u w a.free r next _ records list c.requires.enough e.along s.step s.row s.others, c.requires.caller.chains.all, c.requires.enough))

pub returns-in-Done-clause-gave : goal.returns-in-Done-clause-gave
returns-in-Done-clause-gave g c is =
    let a = c.args.caller.now in let e = c.go_along-last.ensures in let s = c.store_next.ensures in let v : View = view a.pass in let u : View = view c.go_along-last.new.pass in let w : View = view c.store_next.new.pass in let x : View = view c.give.new.pass in
    let r = c.go_along-last.result.0 in let next = c.go_along-last.result.1 in let records = ap (λ (k : Setup). k.records) e.pass.setup in let list = c.requires.caller.chains.frees in let chain : Chain = record { head = a.free.head; count = 32 } in
    let full = cut_full v u w a.free r next _ records list c.requires.enough e.along s.step s.row s.others in
    let t = subst (Gives g.P.Pool.SHELVES g.P.Pool.busy w x chain) c.in-Done.is c.give.ensures.gives in
    record {
      between = w.own;
      last = r;
      cut = cut_steps v u w a.free r next _ records list c.requires.enough e.along s.step s.row s.others;
      given = (w, x, record { setup = s.of.setup; before = refl; after = refl }, (chain, full, t));
    }

pub returns-in-Kept-clause-free : goal.returns-in-Kept-clause-free
returns-in-Kept-clause-free g c =
    let a = c.args.caller.now in let e = c.go_along-last.ensures in let s = c.store_next.ensures in let v : View = view a.pass in let u : View = view c.go_along-last.new.pass in let w : View = view c.store_next.new.pass in let x : View = view c.give.new.pass in
    let r = c.go_along-last.result.0 in let next = c.go_along-last.result.1 in let records = ap (λ (k : Setup). k.records) e.pass.setup in let list = c.requires.caller.chains.frees in let chain : Chain = record { head = a.free.head; count = 32 } in
    let t = subst (Gives g.P.Pool.SHELVES g.P.Pool.busy w x chain) c.in-Kept.is c.give.ensures.gives in let z = c.store_next-in-Kept.ensures in let y : View = view c.store_next-in-Kept.new.pass in
    let at = ap (λ (k : Setup). k.records) c.give.ensures.pass.setup in
    gives_then v u y (gives_mine v u _ e.along.made e.along.mine e.along.moves) (gives_then u w y (gives_store u w r _ (last_is v u w a.free r next 0 records list c.requires.enough e.along) s.step)
    (gives_then w x y (gives_mine w x t.steps t.made t.answer.1 t.moves) (gives_store x y r _ (back_is v u w a.free r next _ records list c.requires.enough e.along s.step s.row s.others x y _ at t.answer.1 z.step z.row z.others) z.step)))

pub returns-in-Kept-clause-caller : goal.returns-in-Kept-clause-caller
returns-in-Kept-clause-caller g c =
    let a = c.args.caller.now in let e = c.go_along-last.ensures in let s = c.store_next.ensures in let v : View = view a.pass in let u : View = view c.go_along-last.new.pass in let w : View = view c.store_next.new.pass in let x : View = view c.give.new.pass in
    let r = c.go_along-last.result.0 in let next = c.go_along-last.result.1 in let records = ap (λ (k : Setup). k.records) e.pass.setup in let list = c.requires.caller.chains.frees in let chain : Chain = record { head = a.free.head; count = 32 } in
    let t = subst (Gives g.P.Pool.SHELVES g.P.Pool.busy w x chain) c.in-Kept.is c.give.ensures.gives in let z = c.store_next-in-Kept.ensures in let y : View = view c.store_next-in-Kept.new.pass in
    let at = ap (λ (k : Setup). k.records) c.give.ensures.pass.setup in
    let q = c.store_next-in-Kept.new.pass in let same = same_then a.pass c.go_along-last.new.pass q e.pass (same_then c.go_along-last.new.pass c.store_next.new.pass q s.pass (same_then c.store_next.new.pass c.give.new.pass q c.give.ensures.pass z.pass)) in
    gives_works g.R.Scheme.is_local a.pass q a.local a.free a.spare a.free a.moved same g.met.R.Scheme.local_stays (returns-in-Kept-clause-free g c) c.requires.caller
    (back_list v u w a.free r next _ records list c.requires.enough e.along s.step s.row s.others x y _ at t.answer.1 z.step z.row z.others)
    (back_idle v u w a.free r next _ records list c.requires.enough e.along s.step s.row s.others x y _ at t.answer.1 z.step z.row z.others ∙ c.requires.caller.chains.all)

pub returns-in-Kept-clause-kept : goal.returns-in-Kept-clause-kept
returns-in-Kept-clause-kept g c is =
    let a = c.args.caller.now in let e = c.go_along-last.ensures in let s = c.store_next.ensures in let v : View = view a.pass in let u : View = view c.go_along-last.new.pass in let w : View = view c.store_next.new.pass in let x : View = view c.give.new.pass in
    let r = c.go_along-last.result.0 in let next = c.go_along-last.result.1 in let records = ap (λ (k : Setup). k.records) e.pass.setup in let list = c.requires.caller.chains.frees in let chain : Chain = record { head = a.free.head; count = 32 } in
    let t = subst (Gives g.P.Pool.SHELVES g.P.Pool.busy w x chain) c.in-Kept.is c.give.ensures.gives in let z = c.store_next-in-Kept.ensures in let y : View = view c.store_next-in-Kept.new.pass in
    let at = ap (λ (k : Setup). k.records) c.give.ensures.pass.setup in
    record {
      between = w.own;
      kept = x.own;
      last = r;
      cut = cut_steps v u w a.free r next _ records list c.requires.enough e.along s.step s.row s.others;
      given = (w, x, record { setup = s.of.setup; before = refl; after = refl }, (chain, cut_full v u w a.free r next _ records list c.requires.enough e.along s.step s.row s.others, subst (λ (b : Chain). Gives g.P.Pool.SHELVES g.P.Pool.busy w x chain (Kept b)) t.answer.0 t));
      mended = back_steps v u w a.free r next _ records list c.requires.enough e.along s.step s.row s.others x y _ at t.answer.1 z.step z.row z.others;
    }
