-- Lines that may all follow, up to the end, are those of the workload that reading them from the end gives.
use Rattle.std.proofs.Common.{◌≡◌, ℕ, zero, suc, ◌+◌, List, [], ◌∷◌, ◌++◌, length, refl, sym, ap, subst, ◌∙◌, append_assoc, arith}
use Rattle.workload_text.specs.declared.seen.Seen.{Seen}
use Rattle.workload_text.specs.Limits.{Plan, IsWorkload}
use Rattle.workload_text.specs.Text.{Line, version_line, callers_line, caller_line, call_line, phase_line, end_line, phases_lines, callers_lines, workload_lines}
use Rattle.workload_text.specs.Following.{at_start, behind_version, behind_callers, in_caller, behind_end, MayAllFollow, place_after_all, seen_after, first_seen}
use Rattle.workload_text.proofs.Admitted.{follows_workload}
use Rattle.workload_text.proofs.Parsed.{Parsed, parse, AllHaveSome}

-- the lines behind a caller's, as they were read
abbrev written : ℕ → Parsed → List Line
written caller p = phases_lines (p.calls ∷ p.phases) ++ (callers_lines (caller + 1) p.callers ++ end_line ∷ [])

record IsUnparsed (seen : Seen) (lines : List Line) : Type 0 where
  pub same : lines ≡ written seen.caller (parse lines)
  pub some : AllHaveSome (parse lines).callers
  pub count : seen.caller + 1 + length (parse lines).callers ≡ seen.callers

nothing_behind_end : (lines : List Line) → MayAllFollow behind_end lines → lines ≡ []
nothing_behind_end [] h = refl
nothing_behind_end (version_line version ∷ lines) h = absurd h.0
nothing_behind_end (callers_line count ∷ lines) h = absurd h.0
nothing_behind_end (caller_line caller ∷ lines) h = absurd h.0
nothing_behind_end (call_line call ∷ lines) h = absurd h.0
nothing_behind_end (phase_line ∷ lines) h = absurd h.0
nothing_behind_end (end_line ∷ lines) h = absurd h.0

open_still : (seen : Seen) → in_caller seen ≡ behind_end → ⊥
open_still seen e = cc

unparsed_caller : (number caller : ℕ) (p : Parsed) → caller ≡ number + 1 → caller_line caller ∷ written caller p ≡ callers_lines (number + 1) ((p.calls ∷ p.phases) ∷ p.callers) ++ end_line ∷ []
unparsed_caller number caller p e =
    let regroup = append_assoc (phases_lines (p.calls ∷ p.phases)) (callers_lines (number + 1 + 1) p.callers) (end_line ∷ []) in
    ap (λ (c : ℕ). caller_line c ∷ written c p) e ∙ ap (λ (ls : List Line). caller_line (number + 1) ∷ ls) (sym regroup)

unparsed_calls : (seen : Seen) (lines : List Line) → MayAllFollow (in_caller seen) lines → place_after_all (in_caller seen) lines ≡ behind_end → IsUnparsed seen lines
unparsed_calls seen [] h e = absurd (open_still seen e)
unparsed_calls seen (version_line version ∷ lines) h e = absurd h.0
unparsed_calls seen (callers_line count ∷ lines) h e = absurd h.0
unparsed_calls seen (call_line call ∷ lines) h e =
    let rest = unparsed_calls (seen_after seen (call_line call)) lines h.1 e in
    record { same = ap (λ (ls : List Line). call_line call ∷ ls) rest.same; some = rest.some; count = rest.count }
unparsed_calls seen (phase_line ∷ lines) h e =
    let rest = unparsed_calls (seen_after seen phase_line) lines h.1 e in
    record { same = ap (λ (ls : List Line). phase_line ∷ ls) rest.same; some = rest.some; count = rest.count }
unparsed_calls seen (caller_line caller ∷ lines) h e =
    let rest = unparsed_calls (seen_after seen (caller_line caller)) lines h.1 e in
    record {
      same = ap (λ (ls : List Line). caller_line caller ∷ ls) rest.same ∙ unparsed_caller seen.caller caller (parse lines) h.0.0;
      some = (omega arith, rest.some);
      count = omega (arith, rest.count, h.0.0);
    }
unparsed_calls seen (end_line ∷ lines) h e =
    record { same = ap (λ (ls : List Line). end_line ∷ ls) (nothing_behind_end lines h.1); some = tt; count = omega (arith, h.0.0) }

abbrev plan_read : ℕ → Parsed → Plan
plan_read version p = record { version = version; lists = (p.calls ∷ p.phases) ∷ p.callers }

-- the workload, and that its lines are these
abbrev pub IsOfWorkload : List Line → Type 0
IsOfWorkload lines = (plan : Plan) × IsWorkload plan × (lines ≡ workload_lines plan)

behind_head : (version count : ℕ) (lines : List Line) → MayAllFollow at_start (version_line version ∷ callers_line count ∷ caller_line 0 ∷ lines) → place_after_all (in_caller (first_seen version count)) lines ≡ behind_end
    → IsOfWorkload (version_line version ∷ callers_line count ∷ caller_line 0 ∷ lines)
behind_head version count lines h e =
    let rest = unparsed_calls (first_seen version count) lines h.1.1.1 e in
    let p = parse lines in
    let plan = plan_read version p in
    let regroup = append_assoc (phases_lines (p.calls ∷ p.phases)) (callers_lines 1 p.callers) (end_line ∷ []) in
    let number : count ≡ length plan.lists = omega (arith, rest.count) in
    let same : version_line version ∷ callers_line count ∷ caller_line 0 ∷ lines ≡ workload_lines plan =
    ap (λ (ls : List Line). version_line version ∷ callers_line count ∷ caller_line 0 ∷ ls) (rest.same ∙ sym regroup)
    ∙ ap (λ (n : ℕ). version_line version ∷ callers_line n ∷ (callers_lines 0 plan.lists ++ end_line ∷ [])) number in
    let ends : MayAllFollow at_start (workload_lines plan) × (place_after_all at_start (workload_lines plan) ≡ behind_end) = subst (λ (ls : List Line). MayAllFollow at_start ls × (place_after_all at_start ls ≡ behind_end)) same (h, e) in
    (plan, follows_workload plan (omega arith) (omega arith, rest.some) ends, same)

-- the three lines at the head
third : (version count : ℕ) (lines : List Line) → MayAllFollow at_start (version_line version ∷ callers_line count ∷ lines) → place_after_all (behind_callers version count) lines ≡ behind_end → IsOfWorkload (version_line version ∷ callers_line count ∷ lines)
third version count [] h e = cc
third version count (version_line v ∷ lines) h e = absurd h.1.1.0
third version count (callers_line n ∷ lines) h e = absurd h.1.1.0
third version count (caller_line zero ∷ lines) h e = behind_head version count lines h e
third version count (caller_line (suc caller) ∷ lines) h e = absurd (omega (arith, h.1.1.0))
third version count (call_line call ∷ lines) h e = absurd h.1.1.0
third version count (phase_line ∷ lines) h e = absurd h.1.1.0
third version count (end_line ∷ lines) h e = absurd h.1.1.0

second : (version : ℕ) (lines : List Line) → MayAllFollow at_start (version_line version ∷ lines) → place_after_all (behind_version version) lines ≡ behind_end → IsOfWorkload (version_line version ∷ lines)
second version [] h e = cc
second version (version_line v ∷ lines) h e = absurd h.1.0
second version (callers_line count ∷ lines) h e = third version count lines h e
second version (caller_line caller ∷ lines) h e = absurd h.1.0
second version (call_line call ∷ lines) h e = absurd h.1.0
second version (phase_line ∷ lines) h e = absurd h.1.0
second version (end_line ∷ lines) h e = absurd h.1.0

pub lines_of_workload : (lines : List Line) → MayAllFollow at_start lines → place_after_all at_start lines ≡ behind_end → IsOfWorkload lines
lines_of_workload [] h e = cc
lines_of_workload (version_line version ∷ lines) h e = second version lines h e
lines_of_workload (callers_line count ∷ lines) h e = absurd h.0
lines_of_workload (caller_line caller ∷ lines) h e = absurd h.0
lines_of_workload (call_line call ∷ lines) h e = absurd h.0
lines_of_workload (phase_line ∷ lines) h e = absurd h.0
lines_of_workload (end_line ∷ lines) h e = absurd h.0
