-- The lines of a workload tell it: reading them from the end gives its lists back.
use Rattle.std.proofs.Common.{◌≡◌, ℕ, ◌+◌, ◌≤◌, List, [], ◌∷◌, ◌++◌, length, map, refl, sym, ap, ◌∙◌, append_assoc, arith}
use Rattle.std.specs.List.{AllByRecursion}
use Rattle.set_model.specs.declared.calls.Call.{Call}
use Rattle.workload_text.specs.Limits.{Plan, AllHavePhases}
use Rattle.workload_text.specs.Text.{Line, version_line, callers_line, caller_line, call_line, phase_line, end_line, later_lines, callers_lines, workload_lines}

-- what is read: calls before the first line `phase` or `caller`, phases before the first line `caller`, and callers
pub record Parsed : Type 0 where
  pub calls : List Call
  pub phases : List (List Call)
  pub callers : List (List (List Call))

abbrev pub parsed : List Call → List (List Call) → List (List (List Call)) → Parsed
parsed calls phases callers = record { calls = calls; phases = phases; callers = callers }

abbrev pub with_call : Call → Parsed → Parsed
with_call call p = parsed (call ∷ p.calls) p.phases p.callers

abbrev pub with_phase : Parsed → Parsed
with_phase p = parsed [] (p.calls ∷ p.phases) p.callers

abbrev pub with_caller : Parsed → Parsed
with_caller p = parsed [] [] ((p.calls ∷ p.phases) ∷ p.callers)

abbrev pub parse : List Line → Parsed
parse [] = parsed [] [] []
parse (call_line call ∷ lines) = with_call call (parse lines)
parse (phase_line ∷ lines) = with_phase (parse lines)
parse (caller_line caller ∷ lines) = with_caller (parse lines)
parse (end_line ∷ lines) = parsed [] [] []
parse (version_line version ∷ lines) = parsed [] [] []
parse (callers_line count ∷ lines) = parsed [] [] []

parse_calls : (calls : List Call) (lines : List Line) (phases : List (List Call)) (callers : List (List (List Call))) → parse lines ≡ parsed [] phases callers
    → parse (map call_line calls ++ lines) ≡ parsed calls phases callers
parse_calls [] lines phases callers e = e
parse_calls (call ∷ calls) lines phases callers e = ap (with_call call) (parse_calls calls lines phases callers e)

parse_later : (phases : List (List Call)) (lines : List Line) (callers : List (List (List Call))) → parse lines ≡ parsed [] [] callers → parse (later_lines phases ++ lines) ≡ parsed [] phases callers
parse_later [] lines callers e = e
parse_later (calls ∷ phases) lines callers e =
    let regroup = append_assoc (map call_line calls) (later_lines phases) lines in
    ap with_phase (ap parse regroup ∙ parse_calls calls (later_lines phases ++ lines) phases callers (parse_later phases lines callers e))

abbrev pub AllHaveSome : List (List (List Call)) → Type 0
AllHaveSome lists = AllByRecursion (λ phases. 1 ≤ length phases) lists

parse_callers : (lists : List (List (List Call))) (first : ℕ) → AllHaveSome lists → parse (callers_lines first lists ++ end_line ∷ []) ≡ parsed [] [] lists
parse_callers [] first h = refl
parse_callers ([] ∷ lists) first h = absurd (omega (arith, h.0))
parse_callers ((calls ∷ phases) ∷ lists) first h =
    let behind = callers_lines (first + 1) lists ++ end_line ∷ [] in
    let regroup : ((map call_line calls ++ later_lines phases) ++ callers_lines (first + 1) lists) ++ end_line ∷ [] ≡ map call_line calls ++ (later_lines phases ++ behind) =
    append_assoc (map call_line calls ++ later_lines phases) (callers_lines (first + 1) lists) (end_line ∷ []) ∙ append_assoc (map call_line calls) (later_lines phases) behind in
    let later = parse_later phases behind lists (parse_callers lists (first + 1) h.1) in
    ap with_caller (ap parse regroup ∙ parse_calls calls (later_lines phases ++ behind) phases lists later)

pub have_some : (count : ℕ) (lists : List (List (List Call))) → AllHavePhases count lists → AllHaveSome lists
have_some count [] h = tt
have_some count (phases ∷ lists) h = (omega (arith, h.0), have_some count lists h.1)

behind_two : (a b c d : Line) (xs ys : List Line) → a ∷ b ∷ xs ≡ c ∷ d ∷ ys → (a ≡ c) × (xs ≡ ys)
behind_two a b c d xs ys e = (cc, cc)

same_version : (a b : ℕ) → version_line a ≡ version_line b → a ≡ b
same_version a b e = cc

-- two workloads with the same lines are the same
pub lines_tell_plan : (a b : Plan) → AllHaveSome a.lists → AllHaveSome b.lists → workload_lines a ≡ workload_lines b → a ≡ b
lines_tell_plan a b ha hb e =
    let parts = behind_two (version_line a.version) (callers_line (length a.lists)) (version_line b.version) (callers_line (length b.lists)) (callers_lines 0 a.lists ++ end_line ∷ []) (callers_lines 0 b.lists ++ end_line ∷ []) e in
    let version = same_version a.version b.version parts.0 in
    let lists : a.lists ≡ b.lists = ap (λ (p : Parsed). p.callers) (sym (parse_callers a.lists 0 ha) ∙ ap parse parts.1 ∙ parse_callers b.lists 0 hb) in
    ap (λ (v : ℕ). record { version = v; lists = a.lists }) version ∙ ap (λ (ls : List (List (List Call))). record { version = b.version; lists = ls }) lists
