use Rattle.std.proofs.Common.{◌≡◌, ◌+◌, ◌∙◌, ap, subst, refl, arith, Some}
use Rattle.record_memory.specs.declared.books.View.{View}
use Rattle.row_words.specs.Refs.{RefParts, IsRef}
use Rattle.row_words.specs.declared.links.Chain.{Chain}
use Rattle.record_table.specs.Handles.{view}
use Rattle.manager.proofs.Stay.{inside_after, chains_after}
use Rattle.record_memory.specs.declared.books.Moves.{Moves}
use Rattle.manager.proofs.MoveCounts.{same_moves, counted_still}
use Rattle.manager.proofs.Stocks.{spares_in}
use Rattle.manager.proofs.Spares.{room_for, pushed_makes, pushed_limbo, pushed_moves, pushed_kept, pushed_spare, pushed_free, pushed_owns, pushed_hand, pushed_list}
use Rattle.manager.proofs.records.set_spare.Goals as goal

pub overflow_add-caller : goal.overflow_add-caller
overflow_add-caller g c = let r = room_for (view c.args.caller.now.pass) c.args.caller.now.spare c.requires.caller.chains.spares in omega arith

pub returns-clause-caller : goal.returns-clause-caller
returns-clause-caller g c = let a = c.args.caller.now in let q = c.set_aside-r.new.pass in let v : View = view a.pass in let w : View = view q in let e = c.set_aside-r.ensures in let h = c.requires.caller in let list = h.chains.spares in
    let after : Chain = record { head = Some c.set_aside-r.result; count = a.spare.count + 1 } in
    let ref : IsRef c.args.own = subst IsRef (c.r.view_is ∙ e.record) c.r.invariant in let head : after.head ≡ Some c.args.own = ap (λ (z : RefParts). Some z) e.record in
    let row = c.requires.own.0 in let own = c.requires.own.1 in let made = pushed_makes v w a.spare after c.args.own row list own ref e.step head refl in record {
      inside = inside_after a.pass q e.pass _ made h.inside;
      chains = chains_after a.pass q e.pass _ made _ a.local a.free a.spare a.free after g.met.R.Scheme.local_stays h.chains (ap (λ (m : Moves). m.births) (pushed_moves v w a.spare after c.args.own row list own ref e.step head refl)) (pushed_limbo v w a.spare after c.args.own row list own ref e.step head refl)
          (pushed_free v w a.spare after c.args.own row list own ref e.step head refl a.free h.chains.frees)
          (pushed_list v w a.spare after c.args.own row list own ref e.step head refl)
          (let i = e.idle in let all = h.chains.all in omega arith);
      counts = counted_still v w a.moved (pushed_limbo v w a.spare after c.args.own row list own ref e.step head refl) (same_moves v.own.moves w.own.moves (pushed_moves v w a.spare after c.args.own row list own ref e.step head refl)) h.counts;
    }

pub returns-clause-made : goal.returns-clause-made
returns-clause-made g c = let a = c.args.caller.now in let q = c.set_aside-r.new.pass in let v : View = view a.pass in let w : View = view q in let e = c.set_aside-r.ensures in
    let after : Chain = record { head = Some c.set_aside-r.result; count = a.spare.count + 1 } in
    let ref : IsRef c.args.own = subst IsRef (c.r.view_is ∙ e.record) c.r.invariant in let head : after.head ≡ Some c.args.own = ap (λ (z : RefParts). Some z) e.record in
    (_, _, pushed_makes v w a.spare after c.args.own c.requires.own.0 c.requires.caller.chains.spares c.requires.own.1 ref e.step head refl)

pub returns-clause-owns : goal.returns-clause-owns
returns-clause-owns g c = let a = c.args.caller.now in let v : View = view a.pass in let w : View = view c.set_aside-r.new.pass in let e = c.set_aside-r.ensures in
    let after : Chain = record { head = Some c.set_aside-r.result; count = a.spare.count + 1 } in
    let ref : IsRef c.args.own = subst IsRef (c.r.view_is ∙ e.record) c.r.invariant in let head : after.head ≡ Some c.args.own = ap (λ (z : RefParts). Some z) e.record in
    pushed_owns v w a.spare after c.args.own c.requires.own.0 c.requires.caller.chains.spares c.requires.own.1 ref e.step head refl

pub returns-clause-stock : goal.returns-clause-stock
returns-clause-stock g c = let a = c.args.caller.now in let q = c.set_aside-r.new.pass in let e = c.set_aside-r.ensures in
    let after : Chain = record { head = Some c.set_aside-r.result; count = a.spare.count + 1 } in
    let ref : IsRef c.args.own = subst IsRef (c.r.view_is ∙ e.record) c.r.invariant in let head : after.head ≡ Some c.args.own = ap (λ (z : RefParts). Some z) e.record in
    let moves = pushed_moves (view a.pass) (view q) a.spare after c.args.own c.requires.own.0 c.requires.caller.chains.spares c.requires.own.1 ref e.step head refl in
    let before = spares_in _ a.pass a.local a.free a.spare c.requires.caller.chains in let now = spares_in _ q a.local a.free after (returns-clause-caller g c).chains in record {
      is_spare_now = pushed_spare (view a.pass) (view q) a.spare after c.args.own c.requires.own.0 c.requires.caller.chains.spares c.requires.own.1 ref e.step head refl;
      kept = pushed_kept (view a.pass) (view q) a.spare after c.args.own c.requires.own.0 c.requires.caller.chains.spares c.requires.own.1 ref e.step head refl;
      spare = omega arith;
      drawn = ap (λ (m : Moves). m.drawn) moves;
      reused = ap (λ (m : Moves). m.reused) moves;
      births = ap (λ (m : Moves). m.births) moves;
    }

pub returns-clause-hand : goal.returns-clause-hand
returns-clause-hand g c = let a = c.args.caller.now in let e = c.set_aside-r.ensures in
    let after : Chain = record { head = Some c.set_aside-r.result; count = a.spare.count + 1 } in
    let ref : IsRef c.args.own = subst IsRef (c.r.view_is ∙ e.record) c.r.invariant in let head : after.head ≡ Some c.args.own = ap (λ (z : RefParts). Some z) e.record in
    pushed_hand (view a.pass) (view c.set_aside-r.new.pass) a.spare after c.args.own c.requires.own.0 c.requires.caller.chains.spares c.requires.own.1 ref e.step head refl
