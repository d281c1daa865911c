use Rattle.std.proofs.Common.{◌≡◌, ℕ, ap, ◌∙◌, subst}
use Rattle.record_memory.specs.declared.books.View.{View}
use Rattle.record_memory.specs.declared.books.Setup.{Setup}
use Rattle.record_table.specs.Handles.{view, setup_of}
use Rattle.reclaim_api.specs.Frames.{FreesInto}
use Rattle.reclaim_debra.specs.Running.{Enters}
use Rattle.reclaim_debra.specs.Entering.{HasAnnounced}
use Rattle.reclaim_debra.proofs.Entered.{records_free, records_then, frees_then, enters}
use Rattle.reclaim_debra.proofs.scheme.DebraScheme.enter.Goals as goal

pub returns-clause-free : goal.returns-clause-free
returns-clause-free g c = let u : View = view c.read_epoch-freed.new.pass in let w : View = view c.scan.new.pass in let x : View = view c.announce.new.pass in
    records_free u x c.read_epoch-freed.new.free (c.announce.ensures.pass.setup ∙ c.scan.ensures.pass.setup) (records_then u w x c.scan.ensures.rest c.announce.ensures.rest) c.read_epoch-freed.ensures.free

pub returns-clause-frees : goal.returns-clause-frees
returns-clause-frees g c = let u : View = view c.read_epoch-freed.new.pass in let w : View = view c.scan.new.pass in let x : View = view c.announce.new.pass in
    let began : view c.begin_guard.new.self ≡ view c.args.pass.now = ap (λ p. p.me.0) c.begin_guard.ensures.seat.same_seat in
    subst (λ (v : View). FreesInto v c.args.free.now c.read_epoch-freed.result x c.read_epoch-freed.new.free) began
    (frees_then (view c.begin_guard.new.self) u x c.args.free.now c.read_epoch-freed.new.free c.read_epoch-freed.result c.read_epoch-freed.ensures.frees (records_then u w x c.scan.ensures.rest c.announce.ensures.rest))

pub returns-clause-does : goal.returns-clause-does
returns-clause-does g c = let u : View = view c.read_epoch-freed.new.pass in let w : View = view c.scan.new.pass in let x : View = view c.announce.new.pass in let k : Setup = setup_of c.args.table.now in
    let began : view c.begin_guard.new.self ≡ view c.args.pass.now = ap (λ p. p.me.0) c.begin_guard.ensures.seat.same_seat in let e = c.read_epoch-freed.new.bags.reading in
    subst (λ (v : View). Enters k v.own c.read_epoch-freed.result x.own) began
    (enters k (view c.begin_guard.new.self) u w x e c.read_epoch-freed.new.bags.place c.scan.new.bags.place c.read_epoch-freed.result c.read_epoch-freed.ensures.read c.scan.ensures.scanned
    (subst (λ (n : ℕ). HasAnnounced w n x) c.scan.ensures.reading c.announce.ensures.announced) c.read_epoch-freed.ensures.bags.place c.scan.ensures.rest c.announce.ensures.rest c.announce.ensures.pass.caller)
