-- Callers that share no key: the remainder of each key by the number of callers is its caller's number.
use Rattle.std.proofs.Common.{◌≡◌, ℕ, zero, suc, ◌+◌, ◌*◌, ◌%◌, ◌<◌, false, cond, sym, ap, ◌∙◌, subst}
use Rattle.std.proofs.lemmas.Nat.{mod-mul-add}
use Rattle.std.specs.List.{AllByRecursion}
use Rattle.set_model.specs.Machine.{key_of}
use Rattle.rand_pcg.specs.Lcg.{Lcg}
use Rattle.rand_pcg.specs.Pcg.{pcg32}
use Rattle.workload_gen.specs.declared.plan.GenPlan.{GenPlan}
use Rattle.workload_gen.specs.Generated.{words_of, key_by, calls_from, caller_calls}
use Rattle.workload_gen.proofs.Lawful.{key_of-call_by}

-- the key is one of this caller's
abbrev pub IsOwn : GenPlan → ℕ → ℕ → Type 0
IsOwn plan caller key = key % plan.callers ≡ caller

module _ (plan : GenPlan) (unshared : plan.shared ≡ false) (caller : ℕ) (within : caller < plan.callers) where
  own_key : (word : ℕ) → IsOwn plan caller (key_by plan caller word)
  own_key word =
      ap (λ shared. cond shared (word % plan.keys) (word % plan.keys * plan.callers + caller) % plan.callers) unshared ∙ mod-mul-add (word % plan.keys) plan.callers caller within

  own_calls_from : (count : ℕ) (words : Lcg) → AllByRecursion (λ call. IsOwn plan caller (key_of call)) (calls_from plan caller count words)
  own_calls_from zero words = tt
  own_calls_from (suc count) words =
      let second = pcg32 (pcg32 words).1 in
      let key = key_by plan caller second.0 in
      (subst (IsOwn plan caller) (sym (key_of-call_by (pcg32 words).0 key)) (own_key second.0), own_calls_from count second.1)

  -- a caller's calls name keys of its own alone
  pub own_calls : AllByRecursion (λ call. IsOwn plan caller (key_of call)) (caller_calls plan caller)
  own_calls = own_calls_from plan.calls (words_of plan.seed caller)
