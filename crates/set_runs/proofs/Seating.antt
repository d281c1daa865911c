-- Callers that take their seats, one after another.
use Rattle.std.proofs.Common.{◌≡◌, ℕ, ◌<◌, List, [], ◌∷◌, ◌++◌, length, length-append, get_or, sum_by, Some, slice_get, sym, ap, ◌∙◌, subst, arith, ⊎_elim}
use Rattle.std.proofs.Math.Seq.{get_or-append_seam}
use Rattle.std.proofs.lemmas.Bool.Decides.{eqb_tells}
use Rattle.std.proofs.Math.ListN.{get_or-map}
use Rattle.std.proofs.lemmas.List.{get_or_append_left}
use Rattle.std.proofs.lemmas.List.Concat.{length-flat_map}
use Rattle.std.proofs.lemmas.Option.{get_or_from_slice_get}
use Rattle.set_model.specs.declared.calls.Call.{Call}
use Rattle.workload_text.specs.Limits.{joined, calls_of_all}
use Rattle.set_runs.specs.Playing.{phases_of}

-- what holds of each element of a list by its place holds when one is put behind them
pub each_push : {X : Type 0} (P : ℕ → X → Type 0) (xs : List X) (y : X) → ((i : ℕ) (d : X) → i < length xs → P i (get_or xs i d)) → P (length xs) y → (i : ℕ) (d : X) → i < length (xs ++ y ∷ []) → P i (get_or (xs ++ y ∷ []) i d)
each_push P xs y old new i d there =
    ⊎_elim (λ e. subst (λ k. P k (get_or (xs ++ y ∷ []) k d)) (sym e.1) (subst (P (length xs)) (sym (get_or-append_seam xs y [] d)) new))
    (λ e. let within : i < length xs = omega (arith, there, length-append xs (y ∷ []), e.1) in subst (P i) (sym (get_or_append_left xs (y ∷ []) d i within)) (old i d within)) (eqb_tells i (length xs))

-- a caller's calls are those of its phases
pub calls_length : (lists : List (List (List Call))) (n : ℕ) (calls : List Call) → slice_get (joined lists) n ≡ Some calls → sum_by length (phases_of lists n) ≡ length calls
calls_length lists n calls at =
    sym (ap length (sym (get_or_from_slice_get (joined lists) n calls [] at) ∙ get_or-map calls_of_all lists n []) ∙ length-flat_map (λ (l : List Call). l) (phases_of lists n))
