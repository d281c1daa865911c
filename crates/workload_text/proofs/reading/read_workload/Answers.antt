use Rattle.std.proofs.Common.{◌≡◌, ℕ, ◌⊎◌, List, Result, Ok, Err, IfOk, IfErr, inl, inr, sym, ap, ◌∙◌}
use Rattle.workload_text.specs.declared.error.WorkloadError.{WorkloadError}
use Rattle.workload_text.specs.declared.error.WorkloadError.TheVariants.{OutOfMemory}
use Rattle.workload_text.specs.Limits.{Plan}
use Rattle.workload_text.specs.Text.{IsTextOf}
use Rattle.workload_text.specs.Refusals.{IsRefused}
use Rattle.workload_text.proofs.Laws.{one_workload, text_or_refusal, one_cause}
use Rattle.workload_text.proofs.reading.read_workload.Goals as goal

text_found : (bytes : List ℕ) (r : Result Plan WorkloadError) (plan : Plan) → IfOk r (λ w. IsTextOf bytes w) → IfErr r (λ e. (e ≡ OutOfMemory) ⊎ IsRefused bytes e) → IsTextOf bytes plan → (r ≡ Ok plan) ⊎ (r ≡ Err OutOfMemory)
text_found bytes (Ok w) plan found refused h = inl (ap Ok (one_workload w plan found.0 h.0 (sym found.1 ∙ h.1)))
text_found bytes (Err e) plan found (inl memory) h = inr (ap Err memory)
text_found bytes (Err e) plan found (inr refused) h = absurd (text_or_refusal bytes plan e h refused)

cause_told : (bytes : List ℕ) (r : Result Plan WorkloadError) (e : WorkloadError) → IfOk r (λ w. IsTextOf bytes w) → IfErr r (λ f. (f ≡ OutOfMemory) ⊎ IsRefused bytes f) → IsRefused bytes e → (r ≡ Err e) ⊎ (r ≡ Err OutOfMemory)
cause_told bytes (Ok w) e found refused h = absurd (text_or_refusal bytes w e found h)
cause_told bytes (Err f) e found (inl memory) h = inr (ap Err memory)
cause_told bytes (Err f) e found (inr refused) h = inl (ap Err (one_cause bytes f e refused h))

pub returns-clause-text : goal.returns-clause-text
returns-clause-text c = λ plan h. text_found c.args.bytes.now c.read_all.result plan c.read_all.ensures.found c.read_all.ensures.refused h

pub returns-clause-cause : goal.returns-clause-cause
returns-clause-cause c = λ e h. cause_told c.args.bytes.now c.read_all.result e c.read_all.ensures.found c.read_all.ensures.refused h
