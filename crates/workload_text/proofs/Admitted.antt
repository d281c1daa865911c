-- The lines that may all follow, up to the end, are those of workloads.
use Rattle.std.proofs.Common.{◌≡◌, ℕ, zero, suc, ◌+◌, ◌-◌, ◌<◌, ◌≤◌, ◌⊎◌, inl, inr, List, [], ◌∷◌, ◌++◌, length, map, sum_by, refl, sym, ap, subst, ◌∙◌, append_assoc, arith}
use Rattle.std.specs.List.{AllByRecursion}
use Rattle.std.proofs.lemmas.List.Sums.{sum_by-cons}
use Rattle.set_model.specs.declared.calls.Call.{Call}
use Rattle.workload_text.specs.declared.seen.Seen.{Seen}
use Rattle.workload_text.specs.Limits.{Plan, IsWorkload, AreLawful, AllHavePhases, total_of}
use Rattle.workload_text.specs.Text.{Line, call_line, end_line, later_lines, phases_lines, callers_lines, workload_lines}
use Rattle.workload_text.specs.Following.{Place, at_start, in_caller, behind_end, MayAllFollow, place_after_all, HasPhaseLeft, HasAllPhases, first_phases_after, first_seen}
use Rattle.workload_text.proofs.Runs.{place_after-append, follow-append, follow_first, follow_later}
use Rattle.workload_text.proofs.Sound.{first_phases_of_first, first_phases_of_other}
use Rattle.workload_text.proofs.Parsed.{AllHaveSome}

sum_of : (calls : List Call) (phases : List (List Call)) → sum_by length (calls ∷ phases) ≡ length calls + sum_by length phases
sum_of calls phases = sum_by-cons length calls phases

total_is : (calls : List Call) (phases : List (List Call)) (lists : List (List (List Call))) → total_of ((calls ∷ phases) ∷ lists) ≡ length calls + sum_by length phases + total_of lists
total_is calls phases lists = omega (arith, sum_by-cons (λ ps. sum_by length ps) (calls ∷ phases) lists, sum_of calls phases)

-- the lines may all follow, up to the end
abbrev pub Ends : Place → List Line → Type 0
Ends place lines = MayAllFollow place lines × (place_after_all place lines ≡ behind_end)

ends-append : (place next : Place) (xs ys : List Line) → MayAllFollow place xs → place_after_all place xs ≡ next → Ends next ys → Ends place (xs ++ ys)
ends-append place next xs ys hx at h =
    let there = subst (λ (p : Place). Ends p ys) (sym at) h in
    (follow-append place xs ys hx there.0, place_after-append place xs ys ∙ there.1)

ends_parts : (place next : Place) (xs ys : List Line) → place_after_all place xs ≡ next → Ends place (xs ++ ys) → MayAllFollow place xs × Ends next ys
ends_parts place next xs ys at h =
    let there : Ends (place_after_all place xs) ys = (follow_later place xs ys h.0, sym (place_after-append place xs ys) ∙ h.1) in
    (follow_first place xs ys h.0, subst (λ (p : Place). Ends p ys) at there)

-- ---- calls

abbrev pub with_calls : Seen → ℕ → Seen
with_calls seen calls = record seen { calls = calls }

pub calls_place : (seen : Seen) (calls : List Call) → place_after_all (in_caller seen) (map call_line calls) ≡ in_caller (with_calls seen (seen.calls + length calls))
calls_place seen [] = let e : seen.calls ≡ seen.calls + 0 = omega arith in ap (λ (n : ℕ). in_caller (with_calls seen n)) e
calls_place seen (call ∷ calls) =
    let e : (seen.calls + 1) + length calls ≡ seen.calls + length (call ∷ calls) = omega arith in
    calls_place (with_calls seen (seen.calls + 1)) calls ∙ ap (λ (n : ℕ). in_caller (with_calls seen n)) e

pub calls_follow : (seen : Seen) (calls : List Call) → AreLawful calls → seen.calls + length calls ≤ 1000000 → MayAllFollow (in_caller seen) (map call_line calls)
calls_follow seen [] h few = tt
calls_follow seen (call ∷ calls) h few = ((h.0, omega arith), calls_follow (with_calls seen (seen.calls + 1)) calls h.1 (omega arith))

calls_are : (seen : Seen) (calls : List Call) → seen.calls ≤ 1000000 → MayAllFollow (in_caller seen) (map call_line calls) → AreLawful calls × (seen.calls + length calls ≤ 1000000)
calls_are seen [] few h = (tt, omega arith)
calls_are seen (call ∷ calls) few h =
    let others = calls_are (with_calls seen (seen.calls + 1)) calls (omega (arith, h.0.1)) h.1 in
    ((h.0.0, others.0), omega (arith, others.1))

-- ---- phases behind the first

abbrev pub with_phase_line : Seen → Seen
with_phase_line seen = record seen { phases = seen.phases + 1; first_phases = first_phases_after seen seen.caller }

abbrev pub first_after : ℕ → ℕ → ℕ → ℕ
first_after zero first more = first + more
first_after (suc caller) first more = first

abbrev pub after_later : Seen → List (List Call) → Seen
after_later seen [] = seen
after_later seen (calls ∷ phases) = after_later (with_calls (with_phase_line seen) (seen.calls + length calls)) phases

later_place : (seen : Seen) (phases : List (List Call)) → place_after_all (in_caller seen) (later_lines phases) ≡ in_caller (after_later seen phases)
later_place seen [] = refl
later_place seen (calls ∷ phases) =
    place_after-append (in_caller (with_phase_line seen)) (map call_line calls) (later_lines phases)
    ∙ ap (λ (p : Place). place_after_all p (later_lines phases)) (calls_place (with_phase_line seen) calls)
    ∙ later_place (with_calls (with_phase_line seen) (seen.calls + length calls)) phases

later_version : (seen : Seen) (phases : List (List Call)) → (after_later seen phases).version ≡ seen.version
later_version seen [] = refl
later_version seen (calls ∷ phases) = later_version (with_calls (with_phase_line seen) (seen.calls + length calls)) phases

later_callers : (seen : Seen) (phases : List (List Call)) → (after_later seen phases).callers ≡ seen.callers
later_callers seen [] = refl
later_callers seen (calls ∷ phases) = later_callers (with_calls (with_phase_line seen) (seen.calls + length calls)) phases

later_caller : (seen : Seen) (phases : List (List Call)) → (after_later seen phases).caller ≡ seen.caller
later_caller seen [] = refl
later_caller seen (calls ∷ phases) = later_caller (with_calls (with_phase_line seen) (seen.calls + length calls)) phases

later_calls : (seen : Seen) (phases : List (List Call)) → (after_later seen phases).calls ≡ seen.calls + sum_by length phases
later_calls seen [] = omega arith
later_calls seen (calls ∷ phases) = omega (arith, sum_of calls phases, later_calls (with_calls (with_phase_line seen) (seen.calls + length calls)) phases)

later_phases : (seen : Seen) (phases : List (List Call)) → (after_later seen phases).phases ≡ seen.phases + length phases
later_phases seen [] = omega arith
later_phases seen (calls ∷ phases) = omega (arith, later_phases (with_calls (with_phase_line seen) (seen.calls + length calls)) phases)

later_first : (seen : Seen) (phases : List (List Call)) → seen.caller ≡ 0 → (after_later seen phases).first_phases ≡ seen.first_phases + length phases
later_first seen [] h = omega arith
later_first seen (calls ∷ phases) h =
    omega (arith, later_first (with_calls (with_phase_line seen) (seen.calls + length calls)) phases h, first_phases_of_first seen seen.caller h)

later_other : (seen : Seen) (phases : List (List Call)) → 0 < seen.caller → (after_later seen phases).first_phases ≡ seen.first_phases
later_other seen [] h = refl
later_other seen (calls ∷ phases) h = later_other (with_calls (with_phase_line seen) (seen.calls + length calls)) phases h ∙ first_phases_of_other seen seen.caller h

-- there is room for so many phases
abbrev pub HasRoom : Seen → ℕ → Type 0
HasRoom seen more = ((seen.caller ≡ 0) × (seen.phases + more ≤ 1000)) ⊎ ((0 < seen.caller) × (seen.phases + more ≤ seen.first_phases))

room_left : (seen : Seen) (more : ℕ) → HasRoom seen (more + 1) → HasPhaseLeft seen
room_left seen more (inl h) = inl (h.0, omega (arith, h.1))
room_left seen more (inr h) = inr (h.0, omega (arith, h.1))

room_after : (seen : Seen) (more calls : ℕ) → HasRoom seen (more + 1) → HasRoom (with_calls (with_phase_line seen) calls) more
room_after seen more calls (inl h) = inl (h.0, omega (arith, h.1))
room_after seen more calls (inr h) = inr (h.0, omega (arith, h.1, first_phases_of_other seen seen.caller h.0))

room_before : (seen : Seen) (more calls : ℕ) → HasRoom (with_calls (with_phase_line seen) calls) more → HasRoom seen (more + 1)
room_before seen more calls (inl h) = inl (h.0, omega (arith, h.1))
room_before seen more calls (inr h) = inr (h.0, omega (arith, h.1, first_phases_of_other seen seen.caller h.0))

room_at : (seen : Seen) (calls : ℕ) → HasPhaseLeft seen → HasRoom (with_calls (with_phase_line seen) calls) 0
room_at seen calls (inl h) = inl (h.0, omega (arith, h.1))
room_at seen calls (inr h) = inr (h.0, omega (arith, h.1, first_phases_of_other seen seen.caller h.0))

one_more : (seen : Seen) (m n : ℕ) → m ≡ n → HasRoom seen m → HasRoom seen n
one_more seen m n e h = subst (λ (k : ℕ). HasRoom seen k) e h

later_follow : (seen : Seen) (phases : List (List Call)) → (0 < length phases → seen.version ≡ 2) → HasRoom seen (length phases) → AllByRecursion AreLawful phases
    → seen.calls + sum_by length phases ≤ 1000000 → MayAllFollow (in_caller seen) (later_lines phases)
later_follow seen [] v room h few = tt
later_follow seen (calls ∷ phases) v room h few =
    let room1 = one_more seen (length (calls ∷ phases)) (length phases + 1) (omega arith) room in
    let next = with_phase_line seen in
    let first = calls_follow next calls h.0 (omega (arith, few, sum_of calls phases)) in
    let others = later_follow (with_calls next (seen.calls + length calls)) phases (λ k. v (omega arith)) (room_after seen (length phases) (seen.calls + length calls) room1) h.1 (omega (arith, few, sum_of calls phases)) in
    ((v (omega arith), room_left seen (length phases) room1), follow-append (in_caller next) (map call_line calls) (later_lines phases) first (subst (λ (p : Place). MayAllFollow p (later_lines phases)) (sym (calls_place next calls)) others))

pub record AreLater (seen : Seen) (phases : List (List Call)) : Type 0 where
  pub version : 0 < length phases → seen.version ≡ 2
  pub room : HasRoom seen (length phases)
  pub keys : AllByRecursion AreLawful phases
  pub few : seen.calls + sum_by length phases ≤ 1000000

later_are : (seen : Seen) (phases : List (List Call)) → seen.calls ≤ 1000000 → HasRoom seen 0 → MayAllFollow (in_caller seen) (later_lines phases) → AreLater seen phases
later_are seen [] few room h = record { version = λ k. absurd (omega arith); room = room; keys = tt; few = omega arith }
later_are seen (calls ∷ phases) few room h =
    let next = with_phase_line seen in
    let count = seen.calls + length calls in
    let first = calls_are next calls few (follow_first (in_caller next) (map call_line calls) (later_lines phases) h.1) in
    let behind = subst (λ (p : Place). MayAllFollow p (later_lines phases)) (calls_place next calls) (follow_later (in_caller next) (map call_line calls) (later_lines phases) h.1) in
    let others = later_are (with_calls next count) phases first.1 (room_at seen count h.0.1) behind in
    let all = one_more seen (length phases + 1) (length (calls ∷ phases)) (omega arith) (room_before seen (length phases) count others.room) in
    record { version = λ k. h.0.0; room = all; keys = (first.0, others.keys); few = omega (arith, others.few, sum_of calls phases) }

-- ---- the phases of a caller, and what is behind them

abbrev pub after_phases : Seen → List Call → List (List Call) → Seen
after_phases seen calls phases = after_later (with_calls seen (seen.calls + length calls)) phases

phases_end : (seen : Seen) (calls : List Call) (phases : List (List Call)) (lines : List Line) → AreLawful calls → seen.calls + length calls ≤ 1000000
    → AreLater (with_calls seen (seen.calls + length calls)) phases → Ends (in_caller (after_phases seen calls phases)) lines → Ends (in_caller seen) (map call_line calls ++ (later_lines phases ++ lines))
phases_end seen calls phases lines keys few later h =
    let mid = with_calls seen (seen.calls + length calls) in
    let behind = ends-append (in_caller mid) (in_caller (after_later mid phases)) (later_lines phases) lines (later_follow mid phases later.version later.room later.keys later.few) (later_place mid phases) h in
    ends-append (in_caller seen) (in_caller mid) (map call_line calls) (later_lines phases ++ lines) (calls_follow seen calls keys few) (calls_place seen calls) behind

phases_parts : (seen : Seen) (calls : List Call) (phases : List (List Call)) (lines : List Line) → seen.calls ≤ 1000000 → HasRoom seen 0 → Ends (in_caller seen) (map call_line calls ++ (later_lines phases ++ lines))
    → AreLawful calls × (seen.calls + length calls ≤ 1000000) × AreLater (with_calls seen (seen.calls + length calls)) phases × Ends (in_caller (after_phases seen calls phases)) lines
phases_parts seen calls phases lines few room h =
    let mid = with_calls seen (seen.calls + length calls) in
    let first = ends_parts (in_caller seen) (in_caller mid) (map call_line calls) (later_lines phases ++ lines) (calls_place seen calls) h in
    let keys = calls_are seen calls few first.0 in
    let second = ends_parts (in_caller mid) (in_caller (after_later mid phases)) (later_lines phases) lines (later_place mid phases) first.1 in
    (keys.0, keys.1, later_are mid phases keys.1 room second.0, second.1)

regroup : (calls : List Call) (phases : List (List Call)) (callers lines : List Line) → (phases_lines (calls ∷ phases) ++ callers) ++ lines ≡ map call_line calls ++ (later_lines phases ++ (callers ++ lines))
regroup calls phases callers lines = append_assoc (phases_lines (calls ∷ phases)) callers lines ∙ append_assoc (map call_line calls) (later_lines phases) (callers ++ lines)

-- ---- callers

-- behind a caller, the next one's line is the last
abbrev pub next_seen : Seen → ℕ → Seen
next_seen seen caller = record seen { caller = caller; phases = 0 }

pub record AreCallers (seen : Seen) (lists : List (List (List Call))) : Type 0 where
  pub count : seen.caller + 1 + length lists ≡ seen.callers
  pub all : HasAllPhases seen
  pub same : AllHavePhases seen.first_phases lists
  pub keys : AllByRecursion (AllByRecursion AreLawful) lists
  pub few : seen.calls + total_of lists ≤ 1000000

callers_end : (seen : Seen) (first : ℕ) (lists : List (List (List Call))) → first ≡ seen.caller + 1 → (0 < seen.first_phases → seen.version ≡ 2) → AreCallers seen lists → Ends (in_caller seen) (callers_lines first lists ++ end_line ∷ [])
callers_end seen first [] e v h = (((omega (arith, h.count), h.all), tt), refl)
callers_end seen first ([] ∷ lists) e v h = absurd (omega (arith, h.same.0))
callers_end seen first ((calls ∷ phases) ∷ lists) e v h =
    let one = next_seen seen first in
    let mid = with_calls one (seen.calls + length calls) in
    let last = after_later mid phases in
    let other : 0 < mid.caller = omega (arith, e) in
    let as_first = later_other mid phases other in
    let is_last = later_caller mid phases in
    let behind = callers_end last (first + 1) lists (omega (arith, is_last)) (λ k. later_version mid phases ∙ v (omega (arith, as_first))) (record {
      count = omega (arith, h.count, is_last, later_callers mid phases);
      all = inr (omega (arith, later_phases mid phases, as_first, h.same.0));
      same = subst (λ (n : ℕ). AllHavePhases n lists) (sym as_first) h.same.1;
      keys = h.keys.1;
      few = omega (arith, later_calls mid phases, h.few, total_is calls phases lists);
    }) in
    let later : AreLater mid phases = record {
      version = λ k. v (omega (arith, h.same.0));
      room = inr (other, omega (arith, h.same.0));
      keys = h.keys.0.1;
      few = omega (arith, h.few, total_is calls phases lists);
    } in
    let all = phases_end one calls phases (callers_lines (first + 1) lists ++ end_line ∷ []) h.keys.0.0 (omega (arith, h.few, total_is calls phases lists)) later behind in
    let grouped = subst (λ (ls : List Line). Ends (in_caller one) ls) (sym (regroup calls phases (callers_lines (first + 1) lists) (end_line ∷ []))) all in
    (((e, omega (arith, h.count), h.all), grouped.0), grouped.1)

callers_are : (seen : Seen) (first : ℕ) (lists : List (List (List Call))) → first ≡ seen.caller + 1 → seen.calls ≤ 1000000 → AllHaveSome lists → Ends (in_caller seen) (callers_lines first lists ++ end_line ∷ []) → AreCallers seen lists
callers_are seen first [] e few some h = record { count = omega (arith, h.0.0.0); all = h.0.0.1; same = tt; keys = tt; few = omega arith }
callers_are seen first ([] ∷ lists) e few some h = absurd (omega (arith, some.0))
callers_are seen first ((calls ∷ phases) ∷ lists) e few some h =
    let one = next_seen seen first in
    let mid = with_calls one (seen.calls + length calls) in
    let other : 0 < mid.caller = omega (arith, e) in
    let ends : Ends (in_caller one) ((phases_lines (calls ∷ phases) ++ callers_lines (first + 1) lists) ++ end_line ∷ []) = (h.0.1, h.1) in
    let grouped = subst (λ (ls : List Line). Ends (in_caller one) ls) (regroup calls phases (callers_lines (first + 1) lists) (end_line ∷ [])) ends in
    let parts = phases_parts one calls phases (callers_lines (first + 1) lists ++ end_line ∷ []) few (inr (other, omega arith)) grouped in
    let later = parts.2 in
    let as_first = later_other mid phases other in
    let is_last = later_caller mid phases in
    let behind = callers_are (after_later mid phases) (first + 1) lists (omega (arith, is_last)) (omega (arith, later_calls mid phases, later.few)) some.1 parts.3 in
    let all : (after_later mid phases).phases ≡ (after_later mid phases).first_phases = elim behind.all [ inl z ↦ absurd (omega (arith, is_last)) | inr same ↦ same ] in
    record {
      count = omega (arith, behind.count, is_last, later_callers mid phases);
      all = h.0.0.2;
      same = (omega (arith, all, later_phases mid phases, as_first), subst (λ (n : ℕ). AllHavePhases n lists) as_first behind.same);
      keys = ((parts.0, later.keys), behind.keys);
      few = omega (arith, behind.few, total_is calls phases lists, later_calls mid phases);
    }

-- ---- workloads

abbrev pub first_place : Plan → Seen
first_place plan = first_seen plan.version (length plan.lists)

two : (version : ℕ) (count : ℕ) → ((version ≡ 1) × (count ≡ 0)) ⊎ (version ≡ 2) → 0 < count → version ≡ 2
two version count (inl h) k = absurd (omega (arith, h.1))
two version count (inr h) k = h

either : (version count : ℕ) → ((version ≡ 1) × (count ≡ 0)) ⊎ (version ≡ 2) → (version ≡ 1) ⊎ (version ≡ 2)
either version count (inl h) = inl h.0
either version count (inr h) = inr h

workload_ends : (version : ℕ) (calls : List Call) (phases : List (List Call)) (lists : List (List (List Call))) → IsWorkload (record { version = version; lists = (calls ∷ phases) ∷ lists })
    → Ends at_start (workload_lines (record { version = version; lists = (calls ∷ phases) ∷ lists }))
workload_ends version calls phases lists w =
    let one = first_seen version (length ((calls ∷ phases) ∷ lists)) in
    let mid = with_calls one (0 + length calls) in
    let last = after_later mid phases in
    let as_first = later_first mid phases refl in
    let v : 0 < length phases → version ≡ 2 = λ k. two version (length (calls ∷ phases) - 1) w.lawful_version (omega arith) in
    let behind = callers_end last 1 lists (omega (arith, later_caller mid phases)) (λ k. later_version mid phases ∙ v (omega (arith, as_first))) (record {
      count = omega (arith, later_caller mid phases, later_callers mid phases);
      all = inl (later_caller mid phases);
      same = subst (λ (n : ℕ). AllHavePhases n lists) (let e : length (calls ∷ phases) - 1 ≡ last.first_phases = omega (arith, as_first) in e) w.same_phases.1;
      keys = w.lawful_keys.1;
      few = omega (arith, later_calls mid phases, w.few_calls, total_is calls phases lists);
    }) in
    let later : AreLater mid phases = record { version = v; room = inl (refl, omega (arith, w.few_phases)); keys = w.lawful_keys.0.1; few = omega (arith, w.few_calls, total_is calls phases lists) } in
    let all = phases_end one calls phases (callers_lines 1 lists ++ end_line ∷ []) w.lawful_keys.0.0 (omega (arith, w.few_calls, total_is calls phases lists)) later behind in
    let grouped = subst (λ (ls : List Line). Ends (in_caller one) ls) (sym (regroup calls phases (callers_lines 1 lists) (end_line ∷ []))) all in
    ((either version (length (calls ∷ phases) - 1) w.lawful_version, ((w.some_caller, w.few_callers), (refl, grouped.0))), grouped.1)

-- the lines of a workload may all follow, up to the end
pub workload_follows : (plan : Plan) → IsWorkload plan → Ends at_start (workload_lines plan)
workload_follows plan w = go plan.version plan.lists w where
  go : (version : ℕ) (lists : List (List (List Call))) → IsWorkload (record { version = version; lists = lists }) → Ends at_start (workload_lines (record { version = version; lists = lists }))
  go version [] h = absurd (omega (arith, h.some_caller))
  go version ([] ∷ lists) h = absurd (omega (arith, h.same_phases.0))
  go version ((calls ∷ phases) ∷ lists) h = workload_ends version calls phases lists h

lawful_version_of : (version count : ℕ) → (version ≡ 1) ⊎ (version ≡ 2) → (0 < count → version ≡ 2) → ((version ≡ 1) × (count ≡ 0)) ⊎ (version ≡ 2)
lawful_version_of version zero (inl e) v = inl (e, refl)
lawful_version_of version (suc count) (inl e) v = inr (v (omega arith))
lawful_version_of version count (inr e) v = inr e

workload_of : (version : ℕ) (calls : List Call) (phases : List (List Call)) (lists : List (List (List Call))) → AllHaveSome lists
    → Ends at_start (workload_lines (record { version = version; lists = (calls ∷ phases) ∷ lists })) → IsWorkload (record { version = version; lists = (calls ∷ phases) ∷ lists })
workload_of version calls phases lists some h =
    let one = first_seen version (length ((calls ∷ phases) ∷ lists)) in
    let mid = with_calls one (0 + length calls) in
    let ends : Ends (in_caller one) ((phases_lines (calls ∷ phases) ++ callers_lines 1 lists) ++ end_line ∷ []) = (h.0.1.1.1, h.1) in
    let grouped = subst (λ (ls : List Line). Ends (in_caller one) ls) (regroup calls phases (callers_lines 1 lists) (end_line ∷ [])) ends in
    let parts = phases_parts one calls phases (callers_lines 1 lists ++ end_line ∷ []) (omega arith) (inl (refl, omega arith)) grouped in
    let later = parts.2 in
    let as_first = later_first mid phases refl in
    let behind = callers_are (after_later mid phases) 1 lists (omega (arith, later_caller mid phases)) (omega (arith, later_calls mid phases, later.few)) some parts.3 in
    let few : length phases ≤ 1000 = elim later.room [ inl r ↦ omega (arith, r.1) | inr r ↦ absurd (omega (arith, r.0)) ] in
    record {
      some_caller = h.0.1.0.0;
      few_callers = h.0.1.0.1;
      same_phases = (omega arith, subst (λ (n : ℕ). AllHavePhases n lists) (let e : (after_later mid phases).first_phases ≡ length (calls ∷ phases) - 1 = omega (arith, as_first) in e) behind.same);
      few_phases = omega (arith, few);
      lawful_version = lawful_version_of version (length (calls ∷ phases) - 1) h.0.0 (λ k. later.version (omega arith));
      few_calls = omega (arith, behind.few, total_is calls phases lists, later_calls mid phases);
      lawful_keys = ((parts.0, later.keys), behind.keys);
    }

-- and lines of that form which may all follow, up to the end, are those of a workload
pub follows_workload : (plan : Plan) → 1 ≤ length plan.lists → AllHaveSome plan.lists → Ends at_start (workload_lines plan) → IsWorkload plan
follows_workload plan caller some h = go plan.version plan.lists caller some h where
  go : (version : ℕ) (lists : List (List (List Call))) → 1 ≤ length lists → AllHaveSome lists → Ends at_start (workload_lines (record { version = version; lists = lists })) → IsWorkload (record { version = version; lists = lists })
  go version [] c s k = absurd (omega arith)
  go version ([] ∷ lists) c s k = absurd (omega (arith, s.0))
  go version ((calls ∷ phases) ∷ lists) c s k = workload_of version calls phases lists s.1 k
