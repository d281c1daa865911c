use Rattle.std.proofs.Common.{ap, sym, ◌∙◌, List, sum_by, length, arith}
use Rattle.std.specs.Global.{Vec}
use Rattle.set_model.specs.declared.calls.Call.{Call}
use Rattle.workload_text.specs.Limits.{Plan, lists_of, total_of}
use Rattle.workload_text.proofs.Held.{total_held}
use Rattle.workload_text.proofs.workload.Workload.total.Goals as goal

pub total_of_all-requires : goal.total_of_all-requires
total_of_all-requires c =
    let same = total_held c.self.inside.lists.items c.self.inside.cuts c.self.invariant in
    let whole = ap (λ (vecs : List (Vec Call)). sum_by length (lists_of vecs)) c.deref.ensures.value in
    omega (arith, same, whole, c.self.invariant.workload.few_calls)

pub returns-clause-sum : goal.returns-clause-sum
returns-clause-sum c =
    let same = total_held c.self.inside.lists.items c.self.inside.cuts c.self.invariant in
    c.total_of_all.ensures ∙ ap (λ (vecs : List (Vec Call)). sum_by length (lists_of vecs)) c.deref.ensures.value ∙ sym same ∙ ap (λ (plan : Plan). total_of plan.lists) c.self.view_is
