use Rattle.std.proofs.Common.{ap, sym, ◌∙◌, List, slice_get, length, arith}
use Rattle.std.specs.Global.{Vec}
use Rattle.set_model.specs.declared.calls.Call.{Call}
use Rattle.workload_text.specs.Limits.{Plan, lists_of, joined}
use Rattle.workload_text.proofs.Held.{length_held, joined_held}
use Rattle.workload_text.proofs.workload.Workload.calls_of.Goals as goal

pub list_at-requires : goal.list_at-requires
list_at-requires c =
    omega (arith, length_held c.self.inside.lists.items c.self.inside.cuts c.self.invariant, ap (λ (plan : Plan). length plan.lists) c.self.view_is, ap (λ (vecs : List (Vec Call)). length vecs) c.deref.ensures.value)

pub returns-clause-calls : goal.returns-clause-calls
returns-clause-calls c =
    let same = joined_held c.self.inside.lists.items c.self.inside.cuts c.self.invariant in
    ap (λ (plan : Plan). slice_get (joined plan.lists) c.args.caller) (sym c.self.view_is) ∙ ap (λ (ls : List (List Call)). slice_get ls c.args.caller) same
    ∙ ap (λ (vecs : List (Vec Call)). slice_get (lists_of vecs) c.args.caller) (sym c.deref.ensures.value) ∙ c.list_at.ensures
