-- The phases of each caller of a workload, one caller after another.
use Rattle.std.proofs.Common.{◌≡◌, ℕ, zero, suc, ◌+◌, ◌<◌, ◌≤◌, List, [], ◌∷◌, ◌++◌, length, take, get_or, sum_by, sym, ap, subst, ◌∙◌, arith}
use Rattle.std.specs.Global.{Vec}
use Rattle.std.proofs.lemmas.List.{take_more, length-map, get_or-map, map-append}
use Rattle.std.proofs.lemmas.List.Sums.{get_or-le-sum_by}
use Rattle.set_model.specs.declared.calls.Call.{Call}
use Rattle.workload_text.specs.Limits.{IsWorkload, lists_of, phases_held, phased_plan, phase_lines}
use Rattle.workload_text.specs.Cuts.{cut_at, cut_all, AllAreCuts, AreCuts, cuts_of}
use Rattle.workload_text.proofs.CutLemmas.{cut_all-push, AllAreCuts-push}
use Rattle.workload_text.proofs.Parsed.{AllHaveSome, have_some}

some_at : (lists : List (List (List Call))) (i : ℕ) (d : List (List Call)) → AllHaveSome lists → i < length lists → 1 ≤ length (get_or lists i d)
some_at [] i d h lt = absurd (omega arith)
some_at (phases ∷ lists) zero d h lt = h.0
some_at (phases ∷ lists) (suc i) d h lt = some_at lists i d h.1 (omega arith)

module _ (vecs : List (Vec (Vec Call))) (i : ℕ) (phases : Vec (Vec Call)) (lt : i < length vecs) (is : phases ≡ get_or vecs i phases) where
  within : i < length (phases_held vecs)
  within = omega (arith, length-map vecs (λ (v : Vec (Vec Call)). lists_of v.items))

  at : get_or (phases_held vecs) i (lists_of phases.items) ≡ lists_of phases.items
  at = get_or-map (λ (v : Vec (Vec Call)). lists_of v.items) vecs i phases (lists_of phases.items) lt ∙ ap (λ (v : Vec (Vec Call)). lists_of v.items) (sym is)

  pub some_phase : IsWorkload (phased_plan (phases_held vecs)) → 1 ≤ length phases.items
  some_phase w =
      let some = some_at (phases_held vecs) i (lists_of phases.items) (have_some (phase_lines (phases_held vecs)) (phases_held vecs) w.same_phases) within in
      omega (arith, some, ap (λ (ps : List (List Call)). length ps) at, length-map phases.items (λ (v : Vec Call). v.items))

  pub few_calls : IsWorkload (phased_plan (phases_held vecs)) → sum_by length (lists_of phases.items) ≤ 1000000
  few_calls w =
      omega (arith, w.few_calls, get_or-le-sum_by (λ ps. sum_by length ps) (phases_held vecs) i (lists_of phases.items) within, ap (λ (ps : List (List Call)). sum_by length ps) at)

  pub next_lists : take (i + 1) (phases_held vecs) ≡ take i (phases_held vecs) ++ lists_of phases.items ∷ []
  next_lists = take_more (phases_held vecs) i (lists_of phases.items) within ∙ ap (λ (x : List (List Call)). take i (phases_held vecs) ++ x ∷ []) at

-- one caller more
module _ (lists new : List (Vec Call)) (cuts next : List (Vec ℕ)) (calls : Vec Call) (cs : Vec ℕ) (e : new ≡ lists ++ calls ∷ []) (f : next ≡ cuts ++ cs ∷ []) (h : AllAreCuts (lists_of lists) (cuts_of cuts)) where
  first : lists_of new ≡ lists_of lists ++ calls.items ∷ []
  first = ap lists_of e ∙ map-append (λ (v : Vec Call). v.items) lists (calls ∷ [])

  second : cuts_of next ≡ cuts_of cuts ++ cs.items ∷ []
  second = ap cuts_of f ∙ map-append (λ (v : Vec ℕ). v.items) cuts (cs ∷ [])

  pub more_lists : cut_all (lists_of new) (cuts_of next) ≡ cut_all (lists_of lists) (cuts_of cuts) ++ cut_at cs.items calls.items ∷ []
  more_lists = ap (λ (ls : List (List Call)). cut_all ls (cuts_of next)) first ∙ ap (cut_all (lists_of lists ++ calls.items ∷ [])) second ∙ cut_all-push (lists_of lists) (cuts_of cuts) calls.items cs.items h

  pub more_cuts : AreCuts 0 cs.items (length calls.items) → AllAreCuts (lists_of new) (cuts_of next)
  more_cuts k = subst (λ (ls : List (List Call)). AllAreCuts ls (cuts_of next)) (sym first) (subst (AllAreCuts (lists_of lists ++ calls.items ∷ [])) (sym second) (AllAreCuts-push (lists_of lists) (cuts_of cuts) calls.items cs.items h k))
