use Rattle.std.proofs.Common.{◌≡◌, ℕ, ap, sym, ◌∙◌, ◌++◌, ◌∷◌, [], length, arith}
use Rattle.workload_text.specs.declared.progress.Progress.{Progress}
use Rattle.workload_text.proofs.Admitted.{with_phase_line}
use Rattle.workload_text.proofs.Steps.{phase_progress}
use Rattle.workload_text.proofs.Sound.{first_phases_of_first, first_phases_of_other}
use Rattle.workload_text.proofs.progress.Progress.next_phase.Goals as goal
use Rattle.workload_text.proofs.progress.Progress.next_phase.Goals.{then-self-eq0, else-self-eq0}

pub returns-clause-progress : goal.returns-clause-progress
returns-clause-progress c = λ bytes rest behind h m text.
    let p = c.args.self in
    let q = c.if-self-eq0.self in
    let size : c.len.result ≡ length p.calls.items = omega arith in
    let pushed = c.in_ok-push.ensures.items ∙ ap (λ (n : ℕ). p.open_cuts.items ++ n ∷ []) size in
    elim c.if-self-eq0.branch [
      | then-self-eq0 w ↦ phase_progress bytes rest behind p q h m text (ap (λ (r : Progress). r.open_cuts.items) w.self-is ∙ pushed)
          (ap (λ (r : Progress). r.lists) w.self-is) (ap (λ (r : Progress). r.cuts) w.self-is) (ap (λ (r : Progress). r.calls) w.self-is) (ap (λ (r : Progress). r.lines) w.self-is)
          (ap (λ (r : Progress). r.seen) w.self-is ∙ ap (λ (n : ℕ). record (with_phase_line p.seen) { first_phases = n }) (sym (first_phases_of_first p.seen p.seen.caller w.if-self-eq0.true)))
      | else-self-eq0 w ↦ phase_progress bytes rest behind p q h m text (ap (λ (r : Progress). r.open_cuts.items) w.self-is ∙ pushed)
          (ap (λ (r : Progress). r.lists) w.self-is) (ap (λ (r : Progress). r.cuts) w.self-is) (ap (λ (r : Progress). r.calls) w.self-is) (ap (λ (r : Progress). r.lines) w.self-is)
          (ap (λ (r : Progress). r.seen) w.self-is ∙ ap (λ (n : ℕ). record (with_phase_line p.seen) { first_phases = n }) (sym (first_phases_of_other p.seen p.seen.caller (let ne = w.if-self-eq0.false in omega (arith, ne)))))
    ]
