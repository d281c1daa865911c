-- Generated calls, from the front.
use Rattle.std.proofs.Common.{◌≡◌, ℕ, zero, suc, ◌+◌, ◌-◌, ◌<◌, List, [], ◌∷◌, ◌++◌, refl, sym, ap, ◌∙◌, append_assoc, arith}
use Rattle.set_model.specs.declared.calls.Call.{Call}
use Rattle.rand_pcg.specs.Lcg.{Lcg}
use Rattle.rand_pcg.specs.Pcg.{pcg32}
use Rattle.workload_gen.specs.declared.plan.GenPlan.{GenPlan}
use Rattle.workload_gen.specs.Generated.{call_by, key_by, calls_from, caller_calls, callers_from}

-- the first of some calls
calls_from-first : (plan : GenPlan) (caller count : ℕ) (words g h : Lcg) (u w : ℕ) → 0 < count → (u, g) ≡ pcg32 words → (w, h) ≡ pcg32 g
    → calls_from plan caller count words ≡ call_by u (key_by plan caller w) ∷ calls_from plan caller (count - 1) h
calls_from-first plan caller zero words g h u w some first second = absurd (omega (arith, some))
calls_from-first plan caller (suc count) words g h u w some first second =
    let e : suc count - 1 ≡ count = omega arith in
    let word = ap (λ (p : ℕ × Lcg). p.0) first in
    let left = ap (λ (p : ℕ × Lcg). p.1) first in
    let next = ap (λ (p : ℕ × Lcg). p.0) second in
    let later = ap (λ (p : ℕ × Lcg). p.1) second in
    rw (next, later, word, left, e) refl

-- a call more is made
pub calls_from-turn : (plan : GenPlan) (caller made : ℕ) (before whole : List Call) (words g h : Lcg) (u w : ℕ) → made < plan.calls → (u, g) ≡ pcg32 words → (w, h) ≡ pcg32 g
    → before ++ calls_from plan caller (plan.calls - made) words ≡ whole
    → (before ++ call_by u (key_by plan caller w) ∷ []) ++ calls_from plan caller (plan.calls - (made + 1)) h ≡ whole
calls_from-turn plan caller made before whole words g h u w within first second so_far =
    let e : plan.calls - (made + 1) ≡ plan.calls - made - 1 = omega arith in
    append_assoc before (call_by u (key_by plan caller w) ∷ []) (calls_from plan caller (plan.calls - (made + 1)) h)
    ∙ ap (λ n. before ++ call_by u (key_by plan caller w) ∷ calls_from plan caller n h) e
    ∙ ap (λ rest. before ++ rest) (sym (calls_from-first plan caller (plan.calls - made) words g h u w (omega (arith, within)) first second))
    ∙ so_far

-- the first of some callers
callers_from-first : (plan : GenPlan) (first count : ℕ) → 0 < count → callers_from plan first count ≡ caller_calls plan first ∷ callers_from plan (first + 1) (count - 1)
callers_from-first plan first zero some = absurd (omega (arith, some))
callers_from-first plan first (suc count) some = let e : suc count - 1 ≡ count = omega arith in rw e refl

-- a caller's calls more are made
pub callers_from-turn : (plan : GenPlan) (caller : ℕ) (before whole : List (List Call)) → caller < plan.callers
    → before ++ callers_from plan caller (plan.callers - caller) ≡ whole
    → (before ++ caller_calls plan caller ∷ []) ++ callers_from plan (caller + 1) (plan.callers - (caller + 1)) ≡ whole
callers_from-turn plan caller before whole within so_far =
    let e : plan.callers - (caller + 1) ≡ plan.callers - caller - 1 = omega arith in
    append_assoc before (caller_calls plan caller ∷ []) (callers_from plan (caller + 1) (plan.callers - (caller + 1)))
    ∙ ap (λ n. before ++ caller_calls plan caller ∷ callers_from plan (caller + 1) n) e
    ∙ ap (λ rest. before ++ rest) (sym (callers_from-first plan caller (plan.callers - caller) (omega (arith, within))))
    ∙ so_far
