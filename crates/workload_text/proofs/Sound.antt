-- What holds at each place behind lines that may all follow, and how many lines there can be.
use Rattle.std.proofs.Common.{◌≡◌, ℕ, zero, suc, ◌+◌, ◌*◌, ◌<◌, ◌≤◌, ◌⊎◌, inl, inr, List, [], ◌∷◌, length, refl, subst, arith}
use Rattle.workload_text.specs.declared.seen.Seen.{Seen}
use Rattle.workload_text.specs.Text.{Line, version_line, callers_line, caller_line, call_line, phase_line, end_line}
use Rattle.workload_text.specs.Following.{Place, at_start, behind_version, behind_callers, in_caller, behind_end, MayFollow, MayAllFollow, place_after, place_after_all, HasPhaseLeft, first_phases_after}

pub record IsSeenSound (seen : Seen) (lines : ℕ) : Type 0 where
  pub version : (seen.version ≡ 1) ⊎ (seen.version ≡ 2)
  pub few_callers : seen.callers ≤ 64
  pub caller : seen.caller < seen.callers
  pub calls : seen.calls ≤ 1000000
  pub phases : seen.phases ≤ 1000
  pub first_phases : seen.first_phases ≤ 1000
  pub first : seen.caller ≡ 0 → seen.first_phases ≡ seen.phases
  pub within : seen.phases ≤ seen.first_phases
  pub one_phase : seen.version ≡ 1 → seen.first_phases ≡ 0
  pub few_lines : lines ≤ 3 + seen.calls + 1001 * seen.caller + seen.phases

abbrev pub IsSound : Place → ℕ → Type 0
IsSound at_start lines = lines ≡ 0
IsSound (behind_version version) lines = (lines ≡ 1) × ((version ≡ 1) ⊎ (version ≡ 2))
IsSound (behind_callers version count) lines = (lines ≡ 2) × ((version ≡ 1) ⊎ (version ≡ 2)) × (1 ≤ count) × (count ≤ 64)
IsSound (in_caller seen) lines = IsSeenSound seen lines
IsSound behind_end lines = Unit {0}

pub first_phases_of_first : (seen : Seen) (caller : ℕ) → caller ≡ 0 → first_phases_after seen caller ≡ seen.first_phases + 1
first_phases_of_first seen zero h = refl
first_phases_of_first seen (suc caller) h = absurd (omega arith)

pub first_phases_of_other : (seen : Seen) (caller : ℕ) → 0 < caller → first_phases_after seen caller ≡ seen.first_phases
first_phases_of_other seen zero h = absurd (omega arith)
first_phases_of_other seen (suc caller) h = refl

sound_phase : (seen : Seen) (lines : ℕ) → IsSeenSound seen lines → seen.version ≡ 2 → HasPhaseLeft seen → IsSeenSound (record seen { phases = seen.phases + 1; first_phases = first_phases_after seen seen.caller }) (lines + 1)
sound_phase seen lines h v (inl p) =
    let after = first_phases_of_first seen seen.caller p.0 in
    record {
      version = h.version;
      few_callers = h.few_callers;
      caller = h.caller;
      calls = h.calls;
      phases = omega arith;
      first_phases = omega (arith, h.first);
      first = λ k. omega (arith, h.first);
      within = omega (arith, h.first);
      one_phase = λ k. absurd (omega arith);
      few_lines = omega (arith, h.few_lines);
    }
sound_phase seen lines h v (inr p) =
    let after = first_phases_of_other seen seen.caller p.0 in
    record {
      version = h.version;
      few_callers = h.few_callers;
      caller = h.caller;
      calls = h.calls;
      phases = omega (arith, h.first_phases);
      first_phases = omega (arith, h.first_phases);
      first = λ k. absurd (omega arith);
      within = omega arith;
      one_phase = λ k. absurd (omega arith);
      few_lines = omega (arith, h.few_lines);
    }

pub sound_after : (place : Place) (line : Line) (lines : ℕ) → IsSound place lines → MayFollow place line → IsSound (place_after place line) (lines + 1)
sound_after at_start (version_line version) lines h m = (omega arith, m)
sound_after (behind_version version) (callers_line count) lines h m = (omega (arith, h.0), h.1, m.0, m.1)
sound_after (behind_callers version count) (caller_line caller) lines h m = record {
  version = h.1;
  few_callers = h.3;
  caller = h.2;
  calls = omega arith;
  phases = omega arith;
  first_phases = omega arith;
  first = λ k. refl;
  within = omega arith;
  one_phase = λ k. refl;
  few_lines = omega (arith, h.0);
}
sound_after (in_caller seen) (call_line call) lines h m = record {
  version = h.version;
  few_callers = h.few_callers;
  caller = h.caller;
  calls = omega (arith, m.1);
  phases = h.phases;
  first_phases = h.first_phases;
  first = h.first;
  within = h.within;
  one_phase = h.one_phase;
  few_lines = omega (arith, h.few_lines);
}
sound_after (in_caller seen) phase_line lines h m = sound_phase seen lines h m.0 m.1
sound_after (in_caller seen) (caller_line caller) lines h m = record {
  version = h.version;
  few_callers = h.few_callers;
  caller = m.1;
  calls = h.calls;
  phases = omega arith;
  first_phases = h.first_phases;
  first = λ k. absurd (omega (arith, m.0));
  within = omega arith;
  one_phase = h.one_phase;
  few_lines = omega (arith, h.few_lines, h.phases, m.0);
}
sound_after (in_caller seen) end_line lines h m = tt
sound_after place line lines h m = absurd m

pub sound_after_all : (place : Place) (xs : List Line) (lines : ℕ) → IsSound place lines → MayAllFollow place xs → IsSound (place_after_all place xs) (lines + length xs)
sound_after_all place [] lines h m = let e : lines ≡ lines + 0 = omega arith in subst (λ (n : ℕ). IsSound place n) e h
sound_after_all place (x ∷ xs) lines h m =
    let tail = sound_after_all (place_after place x) xs (lines + 1) (sound_after place x lines h m.0) m.1 in
    let e : (lines + 1) + length xs ≡ lines + length (x ∷ xs) = omega arith in
    subst (λ (n : ℕ). IsSound (place_after_all (place_after place x) xs) n) e tail

-- behind lines that may follow from the start
pub sound_at : (lines : List Line) (seen : Seen) → MayAllFollow at_start lines → place_after_all at_start lines ≡ in_caller seen → IsSeenSound seen (length lines)
sound_at lines seen follow at =
    let all = sound_after_all at_start lines 0 refl follow in
    let e : 0 + length lines ≡ length lines = omega arith in
    subst (λ (p : Place). IsSound p (length lines)) at (subst (λ (n : ℕ). IsSound (place_after_all at_start lines) n) e all)
