use Rattle.std.proofs.Common.{sym, ap, ◌∙◌, subst}
use Rattle.record_table.specs.Handles.{view, since, is_inside}
use Rattle.reclaim_ibr.specs.LocalParts.{IsLocal}
use Rattle.reclaim_ibr.proofs.Storing.{lower_is_cleared}
use Rattle.reclaim_ibr.proofs.Locals.{local_cleared}
use Rattle.reclaim_ibr.proofs.announcing.leave.Goals as goal

pub returns-clause-local : goal.returns-clause-local
returns-clause-local g c = let p = c.args.pass.now in let q = c.end_guard.new.self in let s = c.store_end.ensures.stored in
    subst (λ b. IsLocal c.args.local.now b (since q) (view q)) (sym c.end_guard.ensures.inside)
    (local_cleared c.args.local.now (is_inside p) (since p) (since q) (view p) (view q) s.0 (ap (λ x. x.me.0) c.end_guard.ensures.seat.same_seat ∙ lower_is_cleared (view p) (view c.store_end.new.pass) s.0 s.1) c.requires.local)
