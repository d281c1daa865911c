-- One phase more that is joined to those before.
use Rattle.std.proofs.Common.{◌≡◌, ℕ, ◌+◌, ◌<◌, List, [], ◌∷◌, ◌++◌, length, take, get_or, sum_by, sym, ap, ◌∙◌, arith, length-append}
use Rattle.std.specs.Global.{Vec}
use Rattle.std.proofs.lemmas.List.{take_more}
use Rattle.std.proofs.lemmas.List.Sums.{sum_by_more}
use Rattle.set_model.specs.declared.calls.Call.{Call}
use Rattle.workload_text.specs.Limits.{lists_of}
use Rattle.workload_text.specs.Cuts.{cut_at, AreCuts}
use Rattle.workload_text.proofs.CutLemmas.{cuts_more, cut_phase}
use Rattle.workload_text.proofs.TotalLemmas.{here, inside}

module _ (vecs : List (Vec Call)) (i : ℕ) (phase : Vec Call) (lt : i < length vecs) (is : phase ≡ get_or vecs i phase) where
  next : take (i + 1) (lists_of vecs) ≡ take i (lists_of vecs) ++ phase.items ∷ []
  next = take_more (lists_of vecs) i phase.items (inside vecs i phase lt is) ∙ ap (λ (x : List Call). take i (lists_of vecs) ++ x ∷ []) (here vecs i phase lt is)

  pub joined_sum : (calls new : List Call) → length calls ≡ sum_by length (take i (lists_of vecs)) → new ≡ calls ++ phase.items → length new ≡ sum_by length (take (i + 1) (lists_of vecs))
  joined_sum calls new h e =
      omega (arith, h, ap length e, length-append calls phase.items, sum_by_more length (lists_of vecs) i phase.items (inside vecs i phase lt is), ap (λ (cs : List Call). length cs) (here vecs i phase lt is))

  pub joined_first : (cuts : List ℕ) (calls new : List Call) → i ≡ 0 → cuts ≡ [] → calls ≡ [] → new ≡ calls ++ phase.items → cut_at cuts new ≡ take (i + 1) (lists_of vecs)
  joined_first cuts calls new z none empty e =
      ap (λ (cs : List ℕ). cut_at cs new) none ∙ ap (λ (c : List Call). c ∷ []) (e ∙ ap (λ (c : List Call). c ++ phase.items) empty) ∙ ap (λ (n : ℕ). take n (lists_of vecs) ++ phase.items ∷ []) (sym z) ∙ sym next

  pub joined_next : (cuts now : List ℕ) (calls new : List Call) → cut_at cuts calls ≡ take i (lists_of vecs) → AreCuts 0 cuts (length calls) → now ≡ cuts ++ length calls ∷ [] → new ≡ calls ++ phase.items → cut_at now new ≡ take (i + 1) (lists_of vecs)
  joined_next cuts now calls new h cut e f =
      ap (λ (cs : List ℕ). cut_at cs new) e ∙ ap (cut_at (cuts ++ length calls ∷ [])) f ∙ cut_phase 0 cuts (length calls) calls phase.items cut (omega arith) ∙ ap (λ (ps : List (List Call)). ps ++ phase.items ∷ []) h ∙ sym next

  pub joined_cuts : (cuts : List ℕ) (calls new : List Call) → AreCuts 0 cuts (length calls) → new ≡ calls ++ phase.items → AreCuts 0 cuts (length new)
  joined_cuts cuts calls new cut e = cuts_more 0 cuts (length calls) (length new) (omega (arith, ap length e, length-append calls phase.items)) cut
