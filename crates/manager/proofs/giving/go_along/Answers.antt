use Rattle.std.proofs.Common.{◌≡◌, ℕ, suc, ◌<◌, ◌+◌, [], ◌∷◌, ◌++◌, length, length-append, get_or, refl, sym, ap, ◌∙◌, subst, arith}
use Rattle.std.proofs.lemmas.List.{get_or_default}
use Rattle.std.specs.Option.{IsSome}
use Rattle.limbo_bags.proofs.Cuts.{found_next}
use Rattle.record_memory.specs.declared.books.View.{View}
use Rattle.row_words.specs.Rows.{Row}
use Rattle.record_rule.specs.ChainRows.{row_in}
use Rattle.record_table.specs.Handles.{view, same_then}
use Rattle.reclaim_api.specs.Chained.{refs_in}
use Rattle.manager.proofs.Along.{loads_last, loads_more}
use Rattle.reclaim_api.specs.Chained.{IsAs, IsChainOf}
use Rattle.reclaim_api.proofs.Kept.{as_stays}
use Rattle.record_memory.specs.declared.books.Setup.{Setup}
use Rattle.record_memory.specs.declared.books.Standing.TheVariants.{Free}
use Rattle.row_words.specs.Refs.{RefParts}
use Rattle.row_words.specs.declared.links.Chain.{Chain}
use Rattle.record_rule.specs.ChainRows.{OwnsAway}
use Rattle.manager.proofs.Stay.{mine_stays}
use Rattle.manager.proofs.FreeSteps.{free_away, row_mine}
use Rattle.manager.proofs.giving.go_along.Goals as goal

pub unwrap-last-requires-in-loop-step : goal.unwrap-last-requires-in-loop-step
unwrap-last-requires-in-loop-step g c =
    let list = c.requires.list.list in let at = c.loop-step.invariant in let v : View = view c.args.pass.now in let u : View = view c.loop-step.pass in
    let found = found_next (row_in v) (row_in u) _ _ _ c.loop-step._step c.loop-step.last list.leads (omega (arith, list.count, c.requires.enough)) at.place (row_mine v u at.mine c.loop-step.last) c.load_next.ensures.next in
    subst IsSome (sym found) refl

pub loop-step-preserved : goal.loop-step-preserved
loop-step-preserved g c =
    let list = c.requires.list.list in let at = c.loop-step.invariant in let v : View = view c.args.pass.now in let u : View = view c.loop-step.pass in let w : View = view c.load_next.new.pass in
    let e = c.load_next.ensures in let r = c.unwrap-last-in-loop-step.result in let refs = refs_in v c.args.free.now in
    let more : suc c.loop-step._step < length refs = omega (arith, list.count, c.requires.enough) in
    let found = found_next (row_in v) (row_in u) _ _ refs c.loop-step._step c.loop-step.last list.leads more at.place (row_mine v u at.mine c.loop-step.last) e.next in
    let same_place : c.loop-step._step + 1 ≡ suc c.loop-step._step = omega arith in
    let here : get_or refs (suc c.loop-step._step) c.loop-step.last ≡ r = cc in
    record {
      of = e.of;
      same = same_then c.args.pass.now c.loop-step.pass c.load_next.new.pass at.same e.pass;
      place = rw same_place (get_or_default refs _ r c.loop-step.last more ∙ here);
      mine = ap (λ (x : View). x.own.mine) e.step.1 ∙ at.mine;
      moves = ap (λ (x : View). x.own.moves) e.step.1 ∙ at.moves;
      walked = (
        at.walked.0 ++ (c.loop-step.last, e.step.0) ∷ [],
        length-append at.walked.0 ((c.loop-step.last, e.step.0) ∷ []) ∙ ap (λ n. n + 1) at.walked.1,
        loads_more v u w at.walked.0 c.loop-step.last e.step.0 at.walked.2 at.mine e.step.1,
      );
    }

pub returns-clause-along : goal.returns-clause-along
returns-clause-along g c =
    let at = c.loop-step.invariant in let v : View = view c.args.pass.now in let u : View = view c.loop-step.pass in let w : View = view c.load_next-next.new.pass in let e = c.load_next-next.ensures in
    let ended : c.loop-step._step ≡ 31 = omega (arith, c.loop-step-test.false, c.loop-step.auto._step-end) in
    record {
      place = subst (λ n. get_or (refs_in v c.args.free.now) n c.loop-step.last ≡ c.loop-step.last) ended at.place;
      next_is = e.next ∙ ap (λ (x : Row). x.next) (row_mine v u at.mine c.loop-step.last);
      walked = at.walked.0;
      many = at.walked.1 ∙ ended;
      found = e.step.0;
      made = loads_last v u w at.walked.0 c.loop-step.last e.step.0 at.walked.2 at.mine e.step.1;
      mine = ap (λ (x : View). x.own.mine) e.step.1 ∙ at.mine;
      moves = ap (λ (x : View). x.own.moves) e.step.1 ∙ at.moves;
    }

-- the record at this place of the chain is free still
free_at : (v u : View) (chain : Chain) (k : ℕ) (last : RefParts) → u.setup ≡ v.setup → u.own.mine ≡ v.own.mine → IsChainOf Free v chain → k < length (refs_in v chain) → get_or (refs_in v chain) k last ≡ last → OwnsAway u last
free_at v u chain k last setup mine list lt place = free_away u last (as_stays Free v u (ap (λ (s : Setup). s.records) setup) (mine_stays Free v u mine) last (subst (IsAs Free v) place (list.list.owned k last lt)))

pub load_next-requires-clause-owned : goal.load_next-requires-clause-owned
load_next-requires-clause-owned g c =
    let at = c.loop-step.invariant in free_at (view c.args.pass.now) (view c.loop-step.pass) c.args.free.now c.loop-step._step c.loop-step.last at.same.setup at.mine c.requires.list (omega (arith, c.requires.list.list.count, c.requires.enough)) at.place

pub load_next-next-requires-clause-owned : goal.load_next-next-requires-clause-owned
load_next-next-requires-clause-owned g c =
    let at = c.loop-step.invariant in free_at (view c.args.pass.now) (view c.loop-step.pass) c.args.free.now c.loop-step._step c.loop-step.last at.same.setup at.mine c.requires.list
    (omega (arith, c.requires.list.list.count, c.requires.enough, c.loop-step-test.false, c.loop-step.auto._step-end)) at.place
