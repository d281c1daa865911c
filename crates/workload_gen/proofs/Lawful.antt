-- Generated workloads are within the limits of a workload.
use Rattle.std.proofs.Common.{◌≡◌, ℕ, zero, suc, ◌+◌, ◌*◌, ◌%◌, ◌<◌, ◌≤◌, Bool, true, false, cond, inl, List, [], ◌∷◌, length, map, refl, sym, ap, subst, sum_by, ◌==◌, ◌||◌, arith}
use Rattle.std.proofs.Math.Nat.{mod-lt, suc-mul, zero-mul}
use Rattle.std.proofs.lemmas.Nat.{mul-le}
use Rattle.std.specs.List.{AllByRecursion}
use Rattle.std.proofs.lemmas.List.Sums.{sum_by-cons}
use Rattle.set_model.specs.declared.calls.Call.{Call}
use Rattle.set_model.specs.declared.calls.Call.TheVariants.{Insert, Remove, Search}
use Rattle.set_model.specs.Machine.{key_of}
use Rattle.rand_pcg.specs.Lcg.{Lcg}
use Rattle.rand_pcg.specs.Pcg.{pcg32}
use Rattle.workload_text.specs.Limits.{AreLawful, AllHavePhases, phase_lines, total_of, plan_of, IsWorkload}
use Rattle.workload_gen.specs.declared.plan.GenPlan.{GenPlan}
use Rattle.workload_gen.specs.Generated.{words_of, call_by, key_by, calls_from, caller_calls, callers_from, generated}

-- each caller's calls in one phase
abbrev one_phase : List (List Call) → List (List (List Call))
one_phase lists = map (λ calls. calls ∷ []) lists

key_of-cond : (b c : Bool) (key : ℕ) → key_of (cond b (Insert key) (cond c (Remove key) (Search key))) ≡ key
key_of-cond true c key = refl
key_of-cond false true key = refl
key_of-cond false false key = refl

pub key_of-call_by : (word key : ℕ) → key_of (call_by word key) ≡ key
key_of-call_by word key = key_of-cond (word % 4 == 0 || word % 4 == 1) (word % 4 == 2) key

cond-le : (b : Bool) (x y most : ℕ) → x ≤ most → y ≤ most → cond b x y ≤ most
cond-le true x y most low high = low
cond-le false x y most low high = high

key_by-le : (plan : GenPlan) (caller word : ℕ) → caller < plan.callers → key_by plan caller word ≤ 1099511627773
key_by-le plan caller word within =
    let place = word % plan.keys in
    let small : place < plan.keys = mod-lt word (omega (arith, plan.some_key)) in
    let product : place * plan.callers ≤ 268435455 * 64 = mul-le place plan.callers 268435455 64 (omega (arith, small, plan.few_keys)) plan.few_callers in
    cond-le plan.shared place (place * plan.callers + caller) 1099511627773 (omega (arith, small, plan.few_keys)) (omega (arith, product, within, plan.few_callers))

calls_lawful : (plan : GenPlan) (caller count : ℕ) (words : Lcg) → caller < plan.callers → AreLawful (calls_from plan caller count words)
calls_lawful plan caller zero words within = tt
calls_lawful plan caller (suc count) words within =
    let second = pcg32 (pcg32 words).1 in
    let key = key_by plan caller second.0 in
    (subst (λ k. k ≤ 1099511627773) (sym (key_of-call_by (pcg32 words).0 key)) (key_by-le plan caller second.0 within), calls_lawful plan caller count second.1 within)

length-calls_from : (plan : GenPlan) (caller count : ℕ) (words : Lcg) → length (calls_from plan caller count words) ≡ count
length-calls_from plan caller zero words = refl
length-calls_from plan caller (suc count) words = ap suc (length-calls_from plan caller count (pcg32 (pcg32 words).1).1)

length-callers_from : (plan : GenPlan) (first count : ℕ) → length (one_phase (callers_from plan first count)) ≡ count
length-callers_from plan first zero = refl
length-callers_from plan first (suc count) = ap suc (length-callers_from plan (first + 1) count)

total-callers_from : (plan : GenPlan) (first count : ℕ) → total_of (one_phase (callers_from plan first count)) ≡ count * plan.calls
total-callers_from plan first zero = sym (zero-mul plan.calls)
total-callers_from plan first (suc count) =
    let own = length-calls_from plan first plan.calls (words_of plan.seed first) in
    let one = sum_by-cons length (caller_calls plan first) [] in
    let all = sum_by-cons (λ (phases : List (List Call)). sum_by length phases) (caller_calls plan first ∷ []) (one_phase (callers_from plan (first + 1) count)) in
    omega (arith, own, one, all, total-callers_from plan (first + 1) count, suc-mul count plan.calls)

lawful-callers_from : (plan : GenPlan) (first count : ℕ) → first + count ≤ plan.callers → AllByRecursion (AllByRecursion AreLawful) (one_phase (callers_from plan first count))
lawful-callers_from plan first zero within = tt
lawful-callers_from plan first (suc count) within =
    ((calls_lawful plan first plan.calls _ (omega (arith, within)), tt), lawful-callers_from plan (first + 1) count (omega (arith, within)))

pub no_phase_lines : (lists : List (List Call)) → phase_lines (one_phase lists) ≡ 0
no_phase_lines [] = refl
no_phase_lines (calls ∷ lists) = refl

have_one_phase : (lists : List (List Call)) → AllHavePhases 0 (one_phase lists)
have_one_phase [] = tt
have_one_phase (calls ∷ lists) = (refl, have_one_phase lists)

pub generated_is_workload : (plan : GenPlan) → IsWorkload (plan_of (generated plan))
generated_is_workload plan =
    let lists = generated plan in
    let count = length-callers_from plan 0 plan.callers in
    let none = no_phase_lines lists in
    record {
      some_caller = omega (arith, count, plan.some_caller);
      few_callers = omega (arith, count, plan.few_callers);
      same_phases = subst (λ n. AllHavePhases n (one_phase lists)) (sym none) (have_one_phase lists);
      few_phases = omega (arith, none);
      lawful_version = inl (refl, none);
      few_calls = omega (arith, total-callers_from plan 0 plan.callers, plan.few_calls);
      lawful_keys = lawful-callers_from plan 0 plan.callers (omega arith);
    }
