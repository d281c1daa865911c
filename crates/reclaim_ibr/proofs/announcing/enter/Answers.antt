use Rattle.std.proofs.Common.{◌≡◌, Bool, true, sym, ap, ◌∙◌, refl, subst, arith}
use Rattle.record_memory.specs.declared.books.View.{View}
use Rattle.record_table.specs.Handles.{view, since, is_inside, setup_of}
use Rattle.reclaim_api.specs.Frames.{LeavesRecords}
use Rattle.reclaim_ibr.specs.declared.interval.Interval.{Interval}
use Rattle.reclaim_ibr.specs.LocalParts.{IsLocal}
use Rattle.reclaim_ibr.specs.Steps.{HasLoadedEpoch, HasRead, HasBegun}
use Rattle.reclaim_ibr.proofs.Loads.{epoch_is_read}
use Rattle.reclaim_ibr.proofs.Storing.{guard_begins}
use Rattle.reclaim_ibr.proofs.Entering.{records_free, records_frees, entered_rest, entered_setup, entered_steps, entered_local}
use Rattle.reclaim_ibr.proofs.announcing.enter.Goals as goal

-- the epoch was loaded by a pass that knew as much as before
read : (g : _) (c : goal.After-store_end g) → HasRead (view c.args.pass.now) c.load_epoch-epoch.result (view c.load_epoch-epoch.new.pass)
read g c = let v : View = view c.args.pass.now in let u : View = view c.load_epoch-epoch.new.pass in
    epoch_is_read v u c.load_epoch-epoch.result c.requires.local.settled (subst (λ (y : View). HasLoadedEpoch y c.load_epoch-epoch.result u) (ap (λ x. x.me.0) c.begin_guard.ensures.seat.same_seat) c.load_epoch-epoch.ensures.loaded)

begun : (g : _) (c : goal.After-store_end g) → HasBegun (view c.raise.new.pass) c.load_epoch-epoch.result (view c.store_end.new.pass)
begun g c = let s = c.store_end.ensures.stored in guard_begins (view c.raise.new.pass) (view c.store_end.new.pass) c.load_epoch-epoch.result s.0 (let a = c.requires.local.first in let b = (read g c).rise in omega arith) s.1

rest : (g : _) (c : goal.After-store_end g) → LeavesRecords (view c.args.pass.now) (view c.store_end.new.pass)
rest g c = let r = c.raise.ensures.stored in entered_rest (view c.args.pass.now) (view c.load_epoch-epoch.new.pass) (view c.raise.new.pass) (view c.store_end.new.pass) c.load_epoch-epoch.result r.0 (read g c) r.1 (begun g c)

pub returns-clause-local : goal.returns-clause-local
returns-clause-local g c = let q = c.store_end.new.pass in let r = c.raise.ensures.stored in
    let inside : is_inside q ≡ true = ap (λ x. x.value) (c.store_end.ensures.pass.inside ∙ c.raise.ensures.pass.inside ∙ c.load_epoch-epoch.ensures.pass.inside) ∙ c.begin_guard.ensures.inside in
    let since_is : since q ≡ view c.args.pass.now = ap (λ x. x.value.me.0) (c.store_end.ensures.pass.since ∙ c.raise.ensures.pass.since ∙ c.load_epoch-epoch.ensures.pass.since) ∙ c.begin_guard.ensures.since in
    subst (λ (x : Interval × Bool × View). IsLocal x.0 x.1 x.2 (view q)) (λ k. (sym c.raise.ensures.local k, sym inside k, sym since_is k))
    (entered_local (view c.args.pass.now) (view c.load_epoch-epoch.new.pass) (view c.raise.new.pass) (view q) c.load_epoch-epoch.result r.0 (read g c) r.1 (begun g c) c.args.local.now (since c.args.pass.now)
    (subst (λ (b : Bool). IsLocal c.args.local.now b (since c.args.pass.now) (view c.args.pass.now)) c.requires.outside c.requires.local))

pub returns-clause-free : goal.returns-clause-free
returns-clause-free g c = let r = c.raise.ensures.stored in let v : View = view c.args.pass.now in let w : View = view c.store_end.new.pass in
    records_free v w c.args.free.now (entered_setup v (view c.load_epoch-epoch.new.pass) (view c.raise.new.pass) w c.load_epoch-epoch.result r.0 (read g c) r.1 (begun g c)) (rest g c) c.requires.free

pub returns-clause-frees : goal.returns-clause-frees
returns-clause-frees g c = records_frees (view c.args.pass.now) (view c.store_end.new.pass) c.args.free.now _ (rest g c) refl refl

pub returns-clause-does : goal.returns-clause-does
returns-clause-does g c = let r = c.raise.ensures.stored in
    entered_steps (view c.args.pass.now) (view c.load_epoch-epoch.new.pass) (view c.raise.new.pass) (view c.store_end.new.pass) c.load_epoch-epoch.result r.0 (read g c) r.1 (begun g c) c.requires.local.words (setup_of c.args.table.now) _ refl refl
