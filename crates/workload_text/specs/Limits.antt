-- What a workload is, and its limits.
use Rattle.std.specs.Prelude.{◌≡◌, ℕ, ◌+◌, ◌-◌, ◌≤◌, ◌⊎◌, List, [], ◌∷◌, length, map, sum_by}
use Rattle.std.specs.Global.{Vec}
use Rattle.std.specs.List.{AllByRecursion, flat_map}
use Rattle.set_model.specs.declared.calls.Call.{Call}
use Rattle.set_model.specs.Machine.{key_of}

-- What contracts see of a workload: the version of its text, and for each caller its phases, each a list of calls.
-- All calls of a phase, of whichever caller, come before all calls of the next phase.
pub record Plan : Type 0 where
  pub version : ℕ
  pub lists : List (List (List Call))

-- all calls of a caller, phase after phase
abbrev pub calls_of_all : List (List Call) → List Call
calls_of_all phases = flat_map (λ calls. calls) phases

-- and of each caller
abbrev pub joined : List (List (List Call)) → List (List Call)
joined lists = map calls_of_all lists

-- how many calls there are, of all callers together
abbrev pub total_of : List (List (List Call)) → ℕ
total_of lists = sum_by (λ phases. sum_by length phases) lists

-- how many lines `phase` the first caller has: one fewer than it has phases
abbrev pub phase_lines : List (List (List Call)) → ℕ
phase_lines [] = 0
phase_lines (phases ∷ lists) = length phases - 1

abbrev pub HasLawfulKey : Call → Type 0
HasLawfulKey call = key_of call ≤ 1099511627773

abbrev pub AreLawful : List Call → Type 0
AreLawful calls = AllByRecursion HasLawfulKey calls

-- each caller's lists have one phase more than that
abbrev pub AllHavePhases : ℕ → List (List (List Call)) → Type 0
AllHavePhases count lists = AllByRecursion (λ phases. length phases ≡ count + 1) lists

pub record IsWorkload (plan : Plan) : Type 0 where
  pub some_caller : 1 ≤ length plan.lists
  pub few_callers : length plan.lists ≤ 64
  pub same_phases : AllHavePhases (phase_lines plan.lists) plan.lists
  pub few_phases : phase_lines plan.lists ≤ 1000
  -- in version 1 there is one phase
  pub lawful_version : ((plan.version ≡ 1) × (phase_lines plan.lists ≡ 0)) ⊎ (plan.version ≡ 2)
  pub few_calls : total_of plan.lists ≤ 1000000
  pub lawful_keys : AllByRecursion (AllByRecursion AreLawful) plan.lists

-- the lists that vectors of calls hold
abbrev pub lists_of : List (Vec Call) → List (List Call)
lists_of vecs = map (λ calls. calls.items) vecs

-- version 1: each caller's calls are its one phase
abbrev pub plan_of : List (List Call) → Plan
plan_of lists = record { version = 1; lists = map (λ calls. calls ∷ []) lists }

-- version 2, of callers, phases and calls
abbrev pub phases_held : List (Vec (Vec Call)) → List (List (List Call))
phases_held vecs = map (λ phases. lists_of phases.items) vecs

abbrev pub phased_plan : List (List (List Call)) → Plan
phased_plan lists = record { version = 2; lists = lists }
