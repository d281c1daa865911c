use Rattle.std.proofs.Common.{◌∷◌, [], ◌++◌, List, take, length, sum_by, sym, ap, subst, ◌∙◌, arith}
use Rattle.std.specs.Global.{Vec}
use Rattle.set_model.specs.declared.calls.Call.{Call}
use Rattle.workload_text.specs.Limits.{IsWorkload, lists_of, phases_held, phased_plan}
use Rattle.workload_text.specs.Cuts.{cut_at}
use Rattle.workload_text.proofs.PhasedLemmas.{some_phase, few_calls, next_lists, more_lists, more_cuts}
use Rattle.workload_text.proofs.workload.Workload.with_phases.Goals as goal

pub join_phases-requires-clause-some : goal.join_phases-requires-clause-some
join_phases-requires-clause-some c =
    let w = subst (λ (vecs : List (Vec (Vec Call))). IsWorkload (phased_plan (phases_held vecs))) (sym c.deref-phases-items.ensures.value) c.requires in
    omega (arith, some_phase c.deref-phases-items.result.now c.loop-phases.phases-index c.phases-item.result c.loop-phases-test.true c.phases-item.is w, ap (λ (vecs : List (Vec Call)). length vecs) c.deref.ensures.value)

pub join_phases-requires-clause-few : goal.join_phases-requires-clause-few
join_phases-requires-clause-few c =
    let w = subst (λ (vecs : List (Vec (Vec Call))). IsWorkload (phased_plan (phases_held vecs))) (sym c.deref-phases-items.ensures.value) c.requires in
    omega (arith, few_calls c.deref-phases-items.result.now c.loop-phases.phases-index c.phases-item.result c.loop-phases-test.true c.phases-item.is w, ap (λ (vecs : List (Vec Call)). sum_by length (lists_of vecs)) c.deref.ensures.value)

pub loop-phases-preserved : goal.loop-phases-preserved
loop-phases-preserved c =
    let joined = more_lists c.loop-phases.joined_lists.items c.push.new.self.items c.loop-phases.cut_lists.items c.push-in-loop-phases.new.self.items c.in_ok-one.one.calls c.in_ok-one.one.cuts c.in_ok-push.ensures.items c.in_ok-push-2.ensures.items c.loop-phases.invariant.cut in
    let phase = c.in_ok-one.ensures.phases ∙ ap lists_of c.deref.ensures.value in
    let next = next_lists c.deref-phases-items.result.now c.loop-phases.phases-index c.phases-item.result c.loop-phases-test.true c.phases-item.is in
    record {
      lists = joined ∙ ap (λ (ls : List (List (List Call))). ls ++ cut_at c.in_ok-one.one.cuts.items c.in_ok-one.one.calls.items ∷ []) c.loop-phases.invariant.lists
          ∙ ap (λ (ps : List (List Call)). take c.loop-phases.phases-index (phases_held c.deref-phases-items.result.now) ++ ps ∷ []) phase ∙ sym next;
      cut = more_cuts c.loop-phases.joined_lists.items c.push.new.self.items c.loop-phases.cut_lists.items c.push-in-loop-phases.new.self.items c.in_ok-one.one.calls c.in_ok-one.one.cuts c.in_ok-push.ensures.items c.in_ok-push-2.ensures.items c.loop-phases.invariant.cut c.in_ok-one.ensures.cuts;
    }
