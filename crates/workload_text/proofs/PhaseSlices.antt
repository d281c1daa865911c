-- The phase of a number is a part of all calls.
use Rattle.std.proofs.Common.{◌≡◌, ℕ, zero, suc, ◌+◌, ◌-◌, ◌≤◌, Some, List, [], ◌∷◌, ◌++◌, length, take, drop, slice_get, sym, ap, ◌∙◌, arith, length-drop}
use Rattle.std.proofs.lemmas.List.{take_all, drop-drop}
use Rattle.set_model.specs.declared.calls.Call.{Call}
use Rattle.workload_text.specs.Cuts.{cut_from, AreCuts}
use Rattle.workload_text.proofs.CutLemmas.{cuts_rise}
use Rattle.workload_text.proofs.Held.{some_is, none_is}

pub record IsPhase (start end : ℕ) (cuts : List ℕ) (calls : List Call) (phase from to : ℕ) : Type 0 where
  pub low : start ≤ from
  pub within : from ≤ to
  pub high : to ≤ end
  pub same : slice_get (cut_from start cuts calls) phase ≡ Some (take (to - from) (drop (from - start) calls))

drop_none : (start from : ℕ) (calls : List Call) → start ≡ from → drop (from - start) calls ≡ calls
drop_none start from calls e = let z : from - start ≡ 0 = omega arith in ap (λ (n : ℕ). drop n calls) z

pub is_phase : (start end : ℕ) (cuts : List ℕ) (calls : List Call) (phase from to : ℕ) → AreCuts start cuts end → end ≡ start + length calls → slice_get (start ∷ cuts) phase ≡ Some from → slice_get (cuts ++ end ∷ []) phase ≡ Some to
    → IsPhase start end cuts calls phase from to
is_phase start end [] calls zero from to h e f g =
    let one = some_is start from f in
    let two = some_is end to g in
    let all : take (to - from) (drop (from - start) calls) ≡ calls = ap (take (to - from)) (drop_none start from calls one) ∙ take_all (to - from) calls (omega arith) in
    record { low = omega arith; within = omega arith; high = omega arith; same = ap Some (sym all) }
is_phase start end [] calls (suc phase) from to h e f g = absurd (none_is from f)
is_phase start end (cut ∷ cuts) calls zero from to h e f g =
    let one = some_is start from f in
    let two = some_is cut to g in
    let rise = cuts_rise cut cuts end h.1 in
    let size : cut - start ≡ to - from = omega arith in
    let all : take (cut - start) calls ≡ take (to - from) (drop (from - start) calls) = ap (λ (n : ℕ). take n calls) size ∙ ap (take (to - from)) (sym (drop_none start from calls one)) in
    record { low = omega arith; within = omega (arith, h.0); high = omega arith; same = ap Some all }
is_phase start end (cut ∷ cuts) calls (suc phase) from to h e f g =
    let rise = cuts_rise cut cuts end h.1 in
    let left : end ≡ cut + length (drop (cut - start) calls) = omega (arith, h.0, length-drop (cut - start) calls) in
    let later = is_phase cut end cuts (drop (cut - start) calls) phase from to h.1 left f g in
    let size : (cut - start) + (from - cut) ≡ from - start = omega (arith, later.low, h.0) in
    let all : drop (from - cut) (drop (cut - start) calls) ≡ drop (from - start) calls = drop-drop (from - cut) (cut - start) calls ∙ ap (λ (n : ℕ). drop n calls) size in
    record { low = omega (arith, later.low, h.0); within = later.within; high = later.high; same = later.same ∙ ap (λ (cs : List Call). Some (take (to - from) cs)) all }
