use Rattle.std.proofs.Common.{◌≡◌, ℕ, ◌≤◌, Option, Some, None, ap, sym, subst, ◌∙◌, List, slice_get, length, arith}
use Rattle.std.specs.Global.{Vec}
use Rattle.set_model.specs.declared.calls.Call.{Call}
use Rattle.workload_text.specs.Limits.{Plan, phase_lines, lists_of}
use Rattle.workload_text.specs.Cuts.{cut_at, AreCuts, cuts_of, plan_held, IsHeld}
use Rattle.workload_text.proofs.Held.{length_held, length_cuts_held, cuts_held, whole_held, phases_of_caller, some_is}
use Rattle.workload_text.proofs.workload.Workload.calls_in.Goals as goal

pub list_at-calls-requires : goal.list_at-calls-requires
list_at-calls-requires c =
    omega (
      arith,
      length_held c.self.inside.lists.items c.self.inside.cuts c.self.invariant,
      ap (λ (plan : Plan). length plan.lists) c.self.view_is,
      ap (λ (vecs : List (Vec Call)). length vecs) c.deref.ensures.value,
      c.requires.caller,
    )

pub cuts_at-requires : goal.cuts_at-requires
cuts_at-requires c =
    let h = subst (IsHeld c.self.inside.lists.items) c.in-Some.is c.self.invariant in
    omega (
      arith,
      length_cuts_held c.self.inside.lists.items c.in-Some.cuts h,
      length_held c.self.inside.lists.items c.self.inside.cuts c.self.invariant,
      ap (λ (plan : Plan). length plan.lists) c.self.view_is,
      ap (λ (vecs : List (Vec ℕ)). length vecs) c.deref-in-Some.ensures.value,
      c.requires.caller,
    )

-- the caller's calls and cuts
module _ (lists : List (Vec Call)) (held : Option (Vec (Vec ℕ))) (cuts : Vec (Vec ℕ)) (plan : Plan) (some : List (Vec Call)) (slice : List (Vec ℕ)) (caller : ℕ) (calls : List Call) (cs : List ℕ)
    (h : IsHeld lists held) (e : held ≡ Some cuts) (view : plan_held lists held ≡ plan) (s : some ≡ lists) (t : slice ≡ cuts.items) (f : slice_get (lists_of some) caller ≡ Some calls) (g : slice_get (cuts_of slice) caller ≡ Some cs) where
  now_held : IsHeld lists (Some cuts)
  now_held = subst (IsHeld lists) e h

  parts : AreCuts 0 cs (length calls) × (slice_get (plan_held lists (Some cuts)).lists caller ≡ Some (cut_at cs calls))
  parts = phases_of_caller (lists_of lists) (cuts_of cuts.items) caller calls cs now_held.cut (ap (λ (v : List (Vec Call)). slice_get (lists_of v) caller) (sym s) ∙ f) (ap (λ (v : List (Vec ℕ)). slice_get (cuts_of v) caller) (sym t) ∙ g)

  are_cuts : AreCuts 0 cs (length calls)
  are_cuts = parts.0

  count : length cs ≡ phase_lines plan.lists
  count = cuts_held lists cuts caller cs now_held (ap (λ (v : List (Vec ℕ)). slice_get (cuts_of v) caller) (sym t) ∙ g)
      ∙ ap (λ (o : Option (Vec (Vec ℕ))). phase_lines (plan_held lists o).lists) (sym e) ∙ ap (λ (p : Plan). phase_lines p.lists) view

  same_phases : (phases : List (List Call)) → slice_get plan.lists caller ≡ Some phases → cut_at cs calls ≡ phases
  same_phases phases k = some_is (cut_at cs calls) phases (sym parts.1 ∙ ap (λ (o : Option (Vec (Vec ℕ))). slice_get (plan_held lists o).lists caller) (sym e) ∙ ap (λ (p : Plan). slice_get p.lists caller) view ∙ k)

pub phase_of-requires-clause-cuts : goal.phase_of-requires-clause-cuts
phase_of-requires-clause-cuts c =
    are_cuts c.self.inside.lists.items c.self.inside.cuts c.in-Some.cuts c.args.self.now c.deref.result.now c.deref-in-Some.result.now c.args.caller c.list_at-calls.result.now c.cuts_at.result.now
    c.self.invariant c.in-Some.is c.self.view_is c.deref.ensures.value c.deref-in-Some.ensures.value c.list_at-calls.ensures c.cuts_at.ensures

pub phase_of-requires-clause-within : goal.phase_of-requires-clause-within
phase_of-requires-clause-within c =
    let all = count c.self.inside.lists.items c.self.inside.cuts c.in-Some.cuts c.args.self.now c.deref.result.now c.deref-in-Some.result.now c.args.caller c.list_at-calls.result.now c.cuts_at.result.now
    c.self.invariant c.in-Some.is c.self.view_is c.deref.ensures.value c.deref-in-Some.ensures.value c.list_at-calls.ensures c.cuts_at.ensures in
    omega (arith, all, c.requires.phase)

whole : (lists : List (Vec Call)) (held : Option (Vec (Vec ℕ))) (plan : Plan) (some : List (Vec Call)) (caller phase : ℕ) (calls : List Call) (phases : List (List Call)) → held ≡ None → plan_held lists held ≡ plan → some ≡ lists → slice_get (lists_of some) caller ≡ Some calls
    → phase ≤ phase_lines plan.lists → slice_get plan.lists caller ≡ Some phases → slice_get phases phase ≡ Some calls
whole lists held plan some caller phase calls phases e view s f le k =
    let now = ap (plan_held lists) (sym e) ∙ view in
    whole_held lists caller phase calls phases (omega (arith, le, ap (λ (p : Plan). phase_lines p.lists) now)) (ap (λ (v : List (Vec Call)). slice_get (lists_of v) caller) (sym s) ∙ f) (ap (λ (p : Plan). slice_get p.lists caller) now ∙ k)

pub returns-in-None-clause-calls : goal.returns-in-None-clause-calls
returns-in-None-clause-calls c = λ phases k.
    whole c.self.inside.lists.items c.self.inside.cuts c.args.self.now c.deref.result.now c.args.caller c.args.phase c.list_at-calls.result.now phases c.in-None.is c.self.view_is c.deref.ensures.value c.list_at-calls.ensures c.requires.phase k

pub returns-in-Some-clause-calls : goal.returns-in-Some-clause-calls
returns-in-Some-clause-calls c = λ phases k.
    let same = same_phases c.self.inside.lists.items c.self.inside.cuts c.in-Some.cuts c.args.self.now c.deref.result.now c.deref-in-Some.result.now c.args.caller c.list_at-calls.result.now c.cuts_at.result.now
    c.self.invariant c.in-Some.is c.self.view_is c.deref.ensures.value c.deref-in-Some.ensures.value c.list_at-calls.ensures c.cuts_at.ensures phases k in
    ap (λ (ps : List (List Call)). slice_get ps c.args.phase) (sym same) ∙ c.phase_of.ensures
