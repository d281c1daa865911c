use Rattle.std.proofs.Common.{◌≡◌, ℕ, List, [], ◌∷◌, ◌++◌, length, sym, ap, subst, ◌∙◌, arith}
use Rattle.std.specs.Global.{Vec}
use Rattle.set_model.specs.declared.calls.Call.{Call}
use Rattle.workload_text.specs.Cuts.{AreCuts}
use Rattle.workload_text.proofs.CutLemmas.{cuts_push}
use Rattle.workload_text.proofs.Joining.{joined_sum, joined_first, joined_next, joined_cuts}
use Rattle.workload_text.proofs.phases.join_phases.Goals as goal
use Rattle.workload_text.proofs.phases.join_phases.Goals.{then-i-gt0+in_ok-push, else-i-gt0}

pub loop-i-preserved : goal.loop-i-preserved
loop-i-preserved c =
    let vecs = c.args.phases.now in
    let i = c.loop-i.i in
    let phase = c.index-phases-i.result in
    let lt = c.loop-i-test.true in
    let is = c.index-phases-i.is in
    let calls = c.loop-i.calls.items in
    let new = c.extend_from_slice.new.self.items in
    let more = c.in_ok-extend_from_slice.ensures.items ∙ ap (λ (cs : List Call). calls ++ cs) c.deref.ensures.value in
    elim c.if-i-gt0.branch [
      | then-i-gt0+in_ok-push w ↦
          let size : w.len.result ≡ length calls = omega arith in
          let now : c.if-i-gt0.cuts.items ≡ c.loop-i.cuts.items ++ length calls ∷ [] = ap (λ (v : Vec ℕ). v.items) w.cuts-is ∙ w.in_ok-push.ensures.items ∙ ap (λ (n : ℕ). c.loop-i.cuts.items ++ n ∷ []) size in
          record {
            none = λ z. absurd (omega arith);
            some = λ k. joined_next vecs i phase lt is c.loop-i.cuts.items c.if-i-gt0.cuts.items calls new (c.loop-i.invariant.some w.if-i-gt0.true) c.loop-i.invariant.cut now more;
            cut = subst (λ (cs : List ℕ). AreCuts 0 cs (length new)) (sym now) (joined_cuts vecs i phase lt is (c.loop-i.cuts.items ++ length calls ∷ []) calls new (cuts_push 0 c.loop-i.cuts.items (length calls) c.loop-i.invariant.cut) more);
            sum = joined_sum vecs i phase lt is calls new c.loop-i.invariant.sum more;
          }
      | else-i-gt0 w ↦
          let zero : i ≡ 0 = omega (arith, w.if-i-gt0.false) in
          let empty = c.loop-i.invariant.none zero in
          let now : c.if-i-gt0.cuts.items ≡ c.loop-i.cuts.items = ap (λ (v : Vec ℕ). v.items) w.cuts-is in
          record {
            none = λ z. absurd (omega arith);
            some = λ k. joined_first vecs i phase lt is c.if-i-gt0.cuts.items calls new zero (now ∙ empty.0) empty.1 more;
            cut = subst (λ (cs : List ℕ). AreCuts 0 cs (length new)) (sym now) (joined_cuts vecs i phase lt is c.loop-i.cuts.items calls new c.loop-i.invariant.cut more);
            sum = joined_sum vecs i phase lt is calls new c.loop-i.invariant.sum more;
          }
    ]
