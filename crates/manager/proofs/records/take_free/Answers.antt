use Rattle.std.proofs.Common.{◌+◌, ◌-◌, ℕ, [], ◌∷◌, refl, sym, ap, ◌∙◌, subst, get_or, None, arith}
use Rattle.manager.specs.Counted.{shown}
use Rattle.manager.proofs.MoveCounts.{spent_still, limbo_still}
use Rattle.record_memory.specs.declared.books.View.{View}
use Rattle.record_memory.specs.declared.books.Standing.TheVariants.{Free}
use Rattle.row_words.specs.declared.links.Chain.{Chain}
use Rattle.record_rule.specs.Kinds.{field_load}
use Rattle.record_rule.specs.Makes.{Makes}
use Rattle.record_table.specs.Handles.{view}
use Rattle.manager.proofs.Stay.{inside_after, chains_after}
use Rattle.manager.proofs.Pops.{pop_count}
use Rattle.manager.proofs.Takings.{first_free, again_makes, again_away, again_spare, again_owns, again_hand, again_rest}
use Rattle.manager.proofs.records.take_free.Goals as goal

pub take_free-r-requires-clause-free : goal.take_free-r-requires-clause-free
take_free-r-requires-clause-free g c = let a = c.args.caller.now in first_free (view a.pass) (view a.pass) a.free a.free c.in_ok-first.first c.requires.caller.chains.frees c.in_ok-first.was

pub returns-clause-caller : goal.returns-clause-caller
returns-clause-caller g c = let a = c.args.caller.now in let q = c.take_free-r.new.pass in let v : View = view a.pass in let w : View = view q in let r = c.in_ok-first.first in let h = c.requires.caller in let e = c.take_free-r.ensures in
    let list = h.chains.frees in let head = c.in_ok-first.was in
    let after : Chain = record { head = c.take_free-r.result.1; count = a.free.count - 1 } in
    let made = again_makes v w a.free after r list head e.step e.next refl in record {
      inside = inside_after a.pass q e.pass _ made h.inside;
      chains = chains_after a.pass q e.pass _ made _ a.local a.free a.spare after a.spare g.met.R.Scheme.local_stays h.chains (ap (λ (x : View). x.own.moves.births) e.step.view) (again_away v w a.free after r list head e.step e.next refl)
          (again_rest v w a.free after r list head e.step e.next refl)
          (again_spare v w a.free after r list head e.step e.next refl a.spare h.chains.spares)
          (let i = e.idle in let all = h.chains.all in let some = pop_count Free v w a.free after r list head in omega arith);
      counts = let n = h.counts in let away = again_away v w a.free after r list head e.step e.next refl in record {
        drawn = n.drawn ∙ ap (λ (x : View). shown x.own.moves.drawn) (sym e.step.view);
        reused = c.raised-caller.ensures _ n.reused ∙ ap (λ (x : View). shown x.own.moves.reused) (sym e.step.view);
        retired = n.retired ∙ ap (λ (x : View). shown x.own.moves.retired) (sym e.step.view);
        freed = n.freed ∙ ap (λ (x : View). shown x.own.moves.freed) (sym e.step.view);
        spent = spent_still v w a.moved away n;
        limbo = limbo_still v w a.moved away (sym (ap (λ (x : View). x.own.moves.retired) e.step.view)) (sym (ap (λ (x : View). x.own.moves.freed) e.step.view)) n.limbo;
      };
    }

pub returns-clause-made : goal.returns-clause-made
returns-clause-made g c = let a = c.args.caller.now in let v : View = view a.pass in let w : View = view c.take_free-r.new.pass in let r = c.in_ok-first.first in let e = c.take_free-r.ensures in let n : ℕ = get_or e.step.row 1 0 in
    let after : Chain = record { head = c.take_free-r.result.1; count = a.free.count - 1 } in
    (n, subst (λ (i : ℕ). Makes v w (field_load v i 1 n ∷ [])) (sym e.index) (again_makes v w a.free after r c.requires.caller.chains.frees c.in_ok-first.was e.step e.next refl))

pub returns-clause-owns : goal.returns-clause-owns
returns-clause-owns g c = let a = c.args.caller.now in let v : View = view a.pass in let w : View = view c.take_free-r.new.pass in let r = c.in_ok-first.first in let e = c.take_free-r.ensures in
    let after : Chain = record { head = c.take_free-r.result.1; count = a.free.count - 1 } in
    again_owns v w a.free after r c.requires.caller.chains.frees c.in_ok-first.was e.step e.next refl

pub returns-clause-births : goal.returns-clause-births
returns-clause-births g c = ap (λ (x : View). x.own.moves.births) c.take_free-r.ensures.step.view

pub returns-clause-again : goal.returns-clause-again
returns-clause-again g c = let v : View = view c.args.caller.now.pass in let e = c.take_free-r.ensures in let was = e.step.was in (
  record { share = was.share; known = ap (λ (i : ℕ). get_or v.own.mine (i - 1) None) e.index ∙ was.known; free = was.free; next = e.generation ∙ ap (λ (n : ℕ). n + 1) (sym was.generation) },
  record { drawn = ap (λ (x : View). x.own.moves.drawn) e.step.view; reused = ap (λ (x : View). x.own.moves.reused) e.step.view },
)

pub returns-clause-hand : goal.returns-clause-hand
returns-clause-hand g c = let a = c.args.caller.now in let v : View = view a.pass in let w : View = view c.take_free-r.new.pass in let r = c.in_ok-first.first in let e = c.take_free-r.ensures in
    let after : Chain = record { head = c.take_free-r.result.1; count = a.free.count - 1 } in
    again_hand v w a.free after r c.requires.caller.chains.frees c.in_ok-first.was e.step e.next refl
