use Rattle.std.proofs.Common.{◌≡◌, ◌*◌, Bool, sym, refl, ap, ◌∙◌, subst}
use Rattle.record_memory.specs.declared.books.View.{View}
use Rattle.record_table.specs.Handles.{view, since}
use Rattle.reclaim_debra.specs.LocalParts.{KeepsBags, IsGuarded}
use Rattle.reclaim_debra.proofs.Stores.{store_bags, store_quiet}
use Rattle.reclaim_debra.proofs.scheme.DebraScheme.leave.Goals as goal

pub returns-clause-local : goal.returns-clause-local
returns-clause-local g c = let s = c.store_own.ensures.stored in let l = c.args.local.now in let v : View = view c.args.pass.now in let w : View = view c.store_own.new.pass in
    let same : view c.end_guard.new.self ≡ w = ap (λ x. x.me.0) c.end_guard.ensures.seat.same_seat in record {
      bags = subst (KeepsBags l) (sym same) (store_bags v w (2 * l.reading) s.0 s.1 l c.requires.local.bags);
      guarded = subst (λ (b : Bool). IsGuarded b (since c.end_guard.new.self) (view c.end_guard.new.self)) (sym c.end_guard.ensures.inside) (ap (λ (x : View). x.own.guard.active) same ∙ store_quiet v w (2 * l.reading) s.0 s.1 l.reading refl);
    }
