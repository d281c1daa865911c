-- Adding up how many calls each caller has.
use Rattle.std.proofs.Common.{◌≡◌, ℕ, ◌+◌, ◌<◌, ◌≤◌, List, length, take, get_or, sum_by, sym, ap, ◌∙◌, arith}
use Rattle.std.specs.Global.{Vec}
use Rattle.std.proofs.lemmas.List.{length-map, get_or-map}
use Rattle.std.proofs.lemmas.List.Sums.{sum_by_more, sum_by_more_le}
use Rattle.set_model.specs.declared.calls.Call.{Call}
use Rattle.workload_text.specs.Limits.{lists_of}

module _ (vecs : List (Vec Call)) (i : ℕ) (calls : Vec Call) (lt : i < length vecs) (is : calls ≡ get_or vecs i calls) where
  pub inside : i < length (lists_of vecs)
  inside = omega (arith, length-map vecs (λ (v : Vec Call). v.items))

  pub here : get_or (lists_of vecs) i calls.items ≡ calls.items
  here = get_or-map (λ (v : Vec Call). v.items) vecs i calls calls.items lt ∙ ap (λ (v : Vec Call). v.items) (sym is)

  pub total_fits : sum_by length (take i (lists_of vecs)) + length calls.items ≤ sum_by length (lists_of vecs)
  total_fits = omega (arith, sum_by_more_le length (lists_of vecs) i calls.items inside, ap (λ (cs : List Call). length cs) here)

  pub total_more : sum_by length (take i (lists_of vecs)) + length calls.items ≡ sum_by length (take (i + 1) (lists_of vecs))
  total_more = omega (arith, sum_by_more length (lists_of vecs) i calls.items inside, ap (λ (cs : List Call). length cs) here)
