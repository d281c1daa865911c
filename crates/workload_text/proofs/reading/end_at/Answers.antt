use Rattle.std.proofs.Common.{◌≢◌, ℕ, List, [], IfOk, inr, sym, ap, subst, ◌∙◌, length}
use Rattle.std.proofs.lemmas.Bool.{eqb-true, eqb-false}
use Rattle.workload_text.specs.Text.{IsTextOf}
use Rattle.workload_text.specs.Progress.{IsEnded}
use Rattle.workload_text.proofs.Ends.{ended_refused, empty_of_length}
use Rattle.workload_text.proofs.reading.end_at.Goals as goal

pub returns-then-not-is_empty-clause-refused : goal.returns-then-not-is_empty-clause-refused
returns-then-not-is_empty-clause-refused c = λ bytes h.
    let some : c.args.rest.now ≢ [] = λ e. eqb-false (length c.args.rest.now) 0 (sym c.is_empty.ensures ∙ c.if-not-is_empty.true) (ap length e) in
    inr (ended_refused bytes c.args.rest.now c.args.progress h some)

pub returns-clause-found : goal.returns-clause-found
returns-clause-found c =
    let empty = empty_of_length c.args.rest.now (eqb-true (length c.args.rest.now) 0 (sym c.is_empty.ensures ∙ c.if-not-is_empty.false)) in
    subst (λ (r : List ℕ). IfOk c.finish.result (λ workload. (bytes : List ℕ) → IsEnded bytes c.args.progress r → IsTextOf bytes workload)) (sym empty) c.finish.ensures.text
