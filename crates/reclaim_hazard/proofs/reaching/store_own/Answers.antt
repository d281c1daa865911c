use Rattle.std.proofs.Common.{◌+◌, ◌*◌, ℕ, sym, ap, ◌∙◌, arith}
use Rattle.record_table.specs.Handles.{view, since, is_inside}
use Rattle.reclaim_hazard.proofs.Storing.{stored_is, local_stored}
use Rattle.reclaim_hazard.proofs.reaching.store_own.Goals as goal

pub returns-clause-local : goal.returns-clause-local
returns-clause-local g c = let l = c.requires.local in let place = c.requires.place in
    let s = stored_is (view c.args.pass.now) (view c.store_control.new.pass) c.announcement.result c.args.place c.args.value (c.announcement.ensures ∙ ap (λ (n : ℕ). 20 + (4 * n + c.args.place)) (sym l.caller))
    (let a = l.caller in let b = l.callers in let d = l.counted in omega arith) (omega arith) c.store_control.ensures.step in
    local_stored c.args.local.now (is_inside c.args.pass.now) (is_inside c.store_control.new.pass) (since c.args.pass.now) (since c.store_control.new.pass) (view c.args.pass.now) (view c.store_control.new.pass) c.args.place c.args.value s.0 s.1 l
