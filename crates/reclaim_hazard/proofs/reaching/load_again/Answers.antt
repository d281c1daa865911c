use Rattle.std.proofs.Common.{◌≡◌, ◌+◌, ◌≤◌, length, ap, ◌∙◌, arith, ℕ, length-append}
use Rattle.record_memory.specs.declared.books.View.{View}
use Rattle.record_table.specs.Handles.{view, since, is_inside}
use Rattle.record_table.specs.Nodes.{origin}
use Rattle.reclaim_api.proofs.Keeping.{keeps_then}
use Rattle.reclaim_hazard.specs.LocalStays.{local_on}
use Rattle.reclaim_hazard.proofs.Loads.{keeps_else, words_still, loaded_still}
use Rattle.reclaim_hazard.proofs.Named.{keeps_store, node_still}
use Rattle.reclaim_hazard.proofs.reaching.load_again.Goals as goal

-- no fewer steps than when the guard began
later : (v w s t : View) (n : ℕ) → t ≡ s → length s.own.steps ≤ length v.own.steps → length w.own.steps ≡ length v.own.steps + n → length t.own.steps ≤ length w.own.steps
later v w s t n same before more = let e = ap (λ (x : View). length x.own.steps) same in omega arith

pub reach_link-requires-clause-from : goal.reach_link-requires-clause-from
reach_link-requires-clause-from g c = let s = c.store_own.ensures.stored in
    node_still c.args.pass.now c.store_own.new.pass c.args.place c.args.from
    (keeps_store c.args.pass.now c.store_own.new.pass (ap (λ x. x.value.me.0) c.store_own.ensures.pass.since) c.args.place c.pack_ref.result s.0 s.1) c.store_own.ensures.pass.setup c.requires.elsewhere c.requires.from

pub returns-clause-local : goal.returns-clause-local
returns-clause-local g c = let s = c.reach_link.ensures.step in let st = c.store_own.ensures.stored in let p = c.store_own.new.pass in let q = c.reach_link.new.pass in
    let same = ap (λ x. x.value.me.0) c.reach_link.ensures.pass.since in
    let late = later (view c.args.pass.now) (view p) (since c.args.pass.now) (since p) 1 (ap (λ x. x.value.me.0) c.store_own.ensures.pass.since) c.requires.inside.later (ap (λ (x : View). length x.own.steps) st.1 ∙ length-append (view c.args.pass.now).own.steps _) in
    local_on c.args.local.now (is_inside p) (is_inside q) (since p) (since q) (view p) (view q) c.reach_link.ensures.pass.setup c.reach_link.ensures.pass.caller (ap (λ (x : View). x.own.mine) s.2.view)
    (ap (λ l. length l) (words_still g.S.Shape.facts p q (origin c.args.from) c.args.place s.0 s.2 same late)) (loaded_still g.S.Shape.facts p q (origin c.args.from) c.args.place s.0 s.2 same late) c.store_own.ensures.local

pub returns-clause-keeps : goal.returns-clause-keeps
returns-clause-keeps g c = let s = c.reach_link.ensures.step in let st = c.store_own.ensures.stored in let p = c.store_own.new.pass in let q = c.reach_link.new.pass in
    let same = ap (λ x. x.value.me.0) c.reach_link.ensures.pass.since in let before = ap (λ x. x.value.me.0) c.store_own.ensures.pass.since in
    let late = later (view c.args.pass.now) (view p) (since c.args.pass.now) (since p) 1 before c.requires.inside.later (ap (λ (x : View). length x.own.steps) st.1 ∙ length-append (view c.args.pass.now).own.steps _) in
    keeps_then _ _ c.args.pass.now p q (keeps_store c.args.pass.now p before c.args.place c.pack_ref.result st.0 st.1) (keeps_else g.S.Shape.facts p q (origin c.args.from) c.args.place s.0 s.2 same late)
