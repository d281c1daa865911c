use Rattle.std.proofs.Common.{ap, sym, ◌∙◌}
use Rattle.workload_text.specs.Limits.{Plan, joined}
use Rattle.workload_text.proofs.Held.{joined_held}
use Rattle.workload_text.proofs.workload.Workload.into_lists.Goals as goal

pub returns-clause-lists : goal.returns-clause-lists
returns-clause-lists c = sym (joined_held c.self.inside.lists.items c.self.inside.cuts c.self.invariant) ∙ ap (λ (plan : Plan). joined plan.lists) c.self.view_is
