-- Which line may follow which: a table over what the lines before it tell.
use Rattle.std.specs.Prelude.{◌≡◌, ℕ, zero, suc, ◌+◌, ◌<◌, ◌≤◌, ◌⊎◌, List, [], ◌∷◌}
use Rattle.workload_text.specs.declared.seen.Seen.{Seen}
use Rattle.workload_text.specs.Limits.{HasLawfulKey}
use Rattle.workload_text.specs.Text.{Line, version_line, callers_line, caller_line, call_line, phase_line, end_line}

-- where the next line stands
pub data Place : Type 0 where
  -- there is no line before it
  at_start : Place
  -- the version's line is the last
  behind_version : ℕ → Place
  -- the version, and the number of callers, whose line is the last
  behind_callers : ℕ → ℕ → Place
  -- behind the line of a caller, and calls and lines `phase` of it
  in_caller : Seen → Place
  behind_end : Place

-- the caller may go on to a next phase: the first caller to 1,000 of them, each other one as often as the first did
abbrev pub HasPhaseLeft : Seen → Type 0
HasPhaseLeft seen = ((seen.caller ≡ 0) × (seen.phases < 1000)) ⊎ ((0 < seen.caller) × (seen.phases < seen.first_phases))

-- the caller went on as often as the first did, if it isn't the first itself
abbrev pub HasAllPhases : Seen → Type 0
HasAllPhases seen = (seen.caller ≡ 0) ⊎ (seen.phases ≡ seen.first_phases)

-- the table
abbrev pub MayFollow : Place → Line → Type 0
MayFollow at_start (version_line version) = (version ≡ 1) ⊎ (version ≡ 2)
MayFollow (behind_version version) (callers_line count) = (1 ≤ count) × (count ≤ 64)
MayFollow (behind_callers version count) (caller_line caller) = caller ≡ 0
MayFollow (in_caller seen) (call_line call) = HasLawfulKey call × (seen.calls < 1000000)
MayFollow (in_caller seen) phase_line = (seen.version ≡ 2) × HasPhaseLeft seen
MayFollow (in_caller seen) (caller_line caller) = (caller ≡ seen.caller + 1) × (caller < seen.callers) × HasAllPhases seen
MayFollow (in_caller seen) end_line = (seen.caller + 1 ≡ seen.callers) × HasAllPhases seen
MayFollow place line = ⊥

-- behind the line of the first caller
abbrev pub first_seen : ℕ → ℕ → Seen
first_seen version count = record { version = version; callers = count; caller = 0; calls = 0; phases = 0; first_phases = 0 }

-- a further line `phase`, which counts for all callers if it is the first caller's
abbrev pub first_phases_after : Seen → ℕ → ℕ
first_phases_after seen zero = seen.first_phases + 1
first_phases_after seen (suc before) = seen.first_phases

abbrev pub seen_after : Seen → Line → Seen
seen_after seen (call_line call) = record seen { calls = seen.calls + 1 }
seen_after seen phase_line = record seen { phases = seen.phases + 1; first_phases = first_phases_after seen seen.caller }
seen_after seen (caller_line caller) = record seen { caller = caller; phases = 0 }
seen_after seen line = seen

-- where one stands behind a line that may follow
abbrev pub place_after : Place → Line → Place
place_after place (version_line version) = behind_version version
place_after (behind_version version) (callers_line count) = behind_callers version count
place_after (behind_callers version count) (caller_line caller) = in_caller (first_seen version count)
place_after (in_caller seen) end_line = behind_end
place_after (in_caller seen) line = in_caller (seen_after seen line)
place_after place line = place

abbrev pub place_after_all : Place → List Line → Place
place_after_all place [] = place
place_after_all place (line ∷ lines) = place_after_all (place_after place line) lines

-- each of the lines may follow those before it
abbrev pub MayAllFollow : Place → List Line → Type 0
MayAllFollow place [] = Unit {0}
MayAllFollow place (line ∷ lines) = MayFollow place line × MayAllFollow (place_after place line) lines
