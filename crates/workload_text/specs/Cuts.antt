-- The phases of a caller, kept as one list of all its calls and the places where it is cut: before each phase but
-- the first, how many calls came before it.
use Rattle.std.specs.Prelude.{ℕ, ◌-◌, ◌≤◌, Option, Some, None, List, [], ◌∷◌, length, map, take, drop}
use Rattle.std.specs.Global.{Vec}
use Rattle.set_model.specs.declared.calls.Call.{Call}
use Rattle.workload_text.specs.Limits.{Plan, IsWorkload, lists_of, plan_of, phased_plan}

-- the phases of the calls from the number `start` on
abbrev pub cut_from : ℕ → List ℕ → List Call → List (List Call)
cut_from start [] calls = calls ∷ []
cut_from start (cut ∷ cuts) calls = take (cut - start) calls ∷ cut_from cut cuts (drop (cut - start) calls)

-- the phases of one caller
abbrev pub cut_at : List ℕ → List Call → List (List Call)
cut_at cuts calls = cut_from 0 cuts calls

-- the cuts rise from `start` up to the end
abbrev pub AreCuts : ℕ → List ℕ → ℕ → Type 0
AreCuts start [] end = start ≤ end
AreCuts start (cut ∷ cuts) end = (start ≤ cut) × AreCuts cut cuts end

-- the phases of each caller
abbrev pub cut_all : List (List Call) → List (List ℕ) → List (List (List Call))
cut_all [] cuts = []
cut_all (calls ∷ lists) [] = []
cut_all (calls ∷ lists) (cuts ∷ others) = cut_at cuts calls ∷ cut_all lists others

abbrev pub AllAreCuts : List (List Call) → List (List ℕ) → Type 0
AllAreCuts [] [] = Unit {0}
AllAreCuts [] (cuts ∷ others) = ⊥
AllAreCuts (calls ∷ lists) [] = ⊥
AllAreCuts (calls ∷ lists) (cuts ∷ others) = AreCuts 0 cuts (length calls) × AllAreCuts lists others

abbrev pub cuts_of : List (Vec ℕ) → List (List ℕ)
cuts_of vecs = map (λ cuts. cuts.items) vecs

-- the workload of joined lists: without cuts it is of version 1
abbrev pub plan_held : List (Vec Call) → Option (Vec (Vec ℕ)) → Plan
plan_held lists None = plan_of (lists_of lists)
plan_held lists (Some cuts) = phased_plan (cut_all (lists_of lists) (cuts_of cuts.items))

abbrev pub AreCutsHeld : List (Vec Call) → Option (Vec (Vec ℕ)) → Type 0
AreCutsHeld lists None = Unit {0}
AreCutsHeld lists (Some cuts) = AllAreCuts (lists_of lists) (cuts_of cuts.items)

pub record IsHeld (lists : List (Vec Call)) (cuts : Option (Vec (Vec ℕ))) : Type 0 where
  pub workload : IsWorkload (plan_held lists cuts)
  pub cut : AreCutsHeld lists cuts
