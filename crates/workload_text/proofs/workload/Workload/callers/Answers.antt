use Rattle.std.proofs.Common.{ap, length, arith}
use Rattle.workload_text.specs.Limits.{Plan}
use Rattle.workload_text.proofs.Held.{length_held}
use Rattle.workload_text.proofs.workload.Workload.callers.Goals as goal

pub overflow_cast-result : goal.overflow_cast-result
overflow_cast-result c = omega (arith, length_held c.self.inside.lists.items c.self.inside.cuts c.self.invariant, c.self.invariant.workload.few_callers, c.len.ensures, c.self.inside.lists.ok.0)

pub returns-clause-count : goal.returns-clause-count
returns-clause-count c =
    omega (arith, length_held c.self.inside.lists.items c.self.inside.cuts c.self.invariant, ap (λ (plan : Plan). length plan.lists) c.self.view_is, c.len.ensures, c.self.inside.lists.ok.0)
