use Rattle.std.proofs.Common.{ap, ◌∙◌}
use Rattle.record_table.specs.Handles.{view}
use Rattle.reclaim_hazard.proofs.Leaving.{cleared_steps}
use Rattle.reclaim_hazard.proofs.scheme.HazardScheme.leave.Goals as goal

pub returns-clause-does : goal.returns-clause-does
returns-clause-does g c = let one = c.store_own.ensures.stored in let two = c.store_own-2.ensures.stored in let last = c.store_own-3.ensures.stored in record {
  first = one.0;
  second = two.0;
  third = last.0;
  steps = ap (λ s. s.me.0.own.steps) c.end_guard.ensures.seat.same_seat ∙ cleared_steps (view c.args.pass.now) (view c.store_own.new.pass) (view c.store_own-2.new.pass) (view c.store_own-3.new.pass) one.0 two.0 last.0 one.1 two.1 last.1;
}
