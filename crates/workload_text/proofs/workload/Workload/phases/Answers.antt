use Rattle.std.proofs.Common.{◌≡◌, ℕ, Option, Some, ap, sym, subst, ◌∙◌, List, slice_get, length, arith}
use Rattle.std.specs.Global.{Vec}
use Rattle.set_model.specs.declared.calls.Call.{Call}
use Rattle.workload_text.specs.Limits.{Plan, phase_lines}
use Rattle.workload_text.specs.Cuts.{cuts_of, plan_held, IsHeld}
use Rattle.workload_text.proofs.Held.{length_held, length_cuts_held, cuts_held}
use Rattle.workload_text.proofs.workload.Workload.phases.Goals as goal

count_is : (lists : List (Vec Call)) (cuts : Option (Vec (Vec ℕ))) (some : Vec (Vec ℕ)) (plan : Plan) (slice : List (Vec ℕ)) (cs : List ℕ) → IsHeld lists cuts → cuts ≡ Some some → plan_held lists cuts ≡ plan → slice ≡ some.items → slice_get (cuts_of slice) 0 ≡ Some cs
    → length cs ≡ phase_lines plan.lists
count_is lists cuts some plan slice cs h e view s f =
    cuts_held lists some 0 cs (subst (IsHeld lists) e h) (ap (λ (v : List (Vec ℕ)). slice_get (cuts_of v) 0) (sym s) ∙ f)
    ∙ ap (λ (o : Option (Vec (Vec ℕ))). phase_lines (plan_held lists o).lists) (sym e) ∙ ap (λ (p : Plan). phase_lines p.lists) view

pub cuts_at-requires : goal.cuts_at-requires
cuts_at-requires c =
    let h = subst (IsHeld c.self.inside.lists.items) c.in-Some.is c.self.invariant in
    let some = h.workload.some_caller in
    omega (arith, length_cuts_held c.self.inside.lists.items c.in-Some.cuts h, length_held c.self.inside.lists.items (Some c.in-Some.cuts) h, some, ap (λ (vecs : List (Vec ℕ)). length vecs) c.deref.ensures.value)

pub overflow_cast-result : goal.overflow_cast-result
overflow_cast-result c =
    let count = count_is c.self.inside.lists.items c.self.inside.cuts c.in-Some.cuts c.args.self.now c.deref.result.now c.cuts_at.result.now c.self.invariant c.in-Some.is c.self.view_is c.deref.ensures.value c.cuts_at.ensures in
    omega (arith, count, ap (λ (plan : Plan). phase_lines plan.lists) c.self.view_is, c.self.invariant.workload.few_phases)

pub returns-in-Some-clause-count : goal.returns-in-Some-clause-count
returns-in-Some-clause-count c =
    count_is c.self.inside.lists.items c.self.inside.cuts c.in-Some.cuts c.args.self.now c.deref.result.now c.cuts_at.result.now c.self.invariant c.in-Some.is c.self.view_is c.deref.ensures.value c.cuts_at.ensures
