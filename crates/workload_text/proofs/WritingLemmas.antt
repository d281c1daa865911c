-- What is written of a caller, phase by phase, and of all callers.
use Rattle.std.proofs.Common.{◌≡◌, ℕ, zero, suc, ◌+◌, ◌<◌, ◌≤◌, Some, List, [], ◌∷◌, ◌++◌, length, map, take, slice_get, sym, ap, ◌∙◌, append_assoc, arith}
use Rattle.std.proofs.lemmas.List.{append-nil, take_more, length-take-le}
use Rattle.std.proofs.lemmas.Option.{get_or_from_slice_get}
use Rattle.set_model.specs.declared.calls.Call.{Call}
use Rattle.text_lines.specs.Lines.{line}
use Rattle.workload_text.specs.Limits.{AllHavePhases}
use Rattle.workload_text.specs.Text.{Line, caller_line, call_line, phase_line, spelled, spelled_lines, later_lines, phases_lines, callers_lines}
use Rattle.workload_text.proofs.Held.{some_is, none_is}
use Rattle.workload_text.proofs.CutLemmas.{callers_last}
use Rattle.workload_text.proofs.Reached.{spelled-append}

later-push : (phases : List (List Call)) (calls : List Call) → later_lines (phases ++ calls ∷ []) ≡ later_lines phases ++ phase_line ∷ map call_line calls
later-push [] calls = ap (λ (ls : List Line). phase_line ∷ ls) (append-nil (map call_line calls))
later-push (first ∷ phases) calls =
    ap (λ (ls : List Line). phase_line ∷ (map call_line first ++ ls)) (later-push phases calls) ∙ ap (λ (ls : List Line). phase_line ∷ ls) (sym (append_assoc (map call_line first) (later_lines phases) (phase_line ∷ map call_line calls)))

phases-push : (phases : List (List Call)) (calls : List Call) → 1 ≤ length phases → phases_lines (phases ++ calls ∷ []) ≡ phases_lines phases ++ phase_line ∷ map call_line calls
phases-push [] calls h = absurd (omega arith)
phases-push (first ∷ phases) calls h = ap (λ (ls : List Line). map call_line first ++ ls) (later-push phases calls) ∙ sym (append_assoc (map call_line first) (later_lines phases) (phase_line ∷ map call_line calls))

pub count_at : (count : ℕ) (lists : List (List (List Call))) (caller : ℕ) (phases : List (List Call)) → AllHavePhases count lists → slice_get lists caller ≡ Some phases → length phases ≡ count + 1
count_at count [] caller phases h e = absurd (none_is phases e)
count_at count (l ∷ lists) zero phases h e = omega (arith, h.0, ap (λ (ps : List (List Call)). length ps) (some_is l phases e))
count_at count (l ∷ lists) (suc caller) phases h e = count_at count lists caller phases h.1 e

-- the first phase
pub first_written : (old out more : List ℕ) (caller : ℕ) (phases : List (List Call)) (calls : List Call) → slice_get phases 0 ≡ Some calls → out ≡ old ++ line (spelled (caller_line caller)) → more ≡ out ++ spelled_lines (map call_line calls)
    → more ≡ old ++ spelled_lines (caller_line caller ∷ phases_lines (take 1 phases))
first_written old out more caller [] calls e f g = absurd (none_is calls e)
first_written old out more caller (first ∷ phases) calls e f g =
    let lines : phases_lines (take 1 (first ∷ phases)) ≡ map call_line calls = append-nil (map call_line first) ∙ ap (map call_line) (some_is first calls e) in
    g ∙ ap (λ (t : List ℕ). t ++ spelled_lines (map call_line calls)) f ∙ append_assoc old (line (spelled (caller_line caller))) (spelled_lines (map call_line calls)) ∙ ap (λ (ls : List Line). old ++ spelled_lines (caller_line caller ∷ ls)) (sym lines)

-- a further one
pub next_written : (old out mid more : List ℕ) (caller k : ℕ) (phases : List (List Call)) (calls : List Call) → 1 ≤ k → slice_get phases k ≡ Some calls → out ≡ old ++ spelled_lines (caller_line caller ∷ phases_lines (take k phases))
    → mid ≡ out ++ line (spelled phase_line) → more ≡ mid ++ spelled_lines (map call_line calls) → k < length phases → more ≡ old ++ spelled_lines (caller_line caller ∷ phases_lines (take (k + 1) phases))
next_written old out mid more caller k phases calls some e f g h lt =
    let here = get_or_from_slice_get phases k calls calls e in
    let taken : take (k + 1) phases ≡ take k phases ++ calls ∷ [] = take_more phases k calls lt ∙ ap (λ (c : List Call). take k phases ++ c ∷ []) here in
    let count : 1 ≤ length (take k phases) = omega (arith, length-take-le k phases (omega arith)) in
    let lines = ap phases_lines taken ∙ phases-push (take k phases) calls count in
    let before = caller_line caller ∷ phases_lines (take k phases) in
    let spelling : spelled_lines (before ++ phase_line ∷ map call_line calls) ≡ spelled_lines before ++ (line (spelled phase_line) ++ spelled_lines (map call_line calls)) = spelled-append before (phase_line ∷ map call_line calls) in
    h ∙ ap (λ (t : List ℕ). t ++ spelled_lines (map call_line calls)) (g ∙ ap (λ (t : List ℕ). t ++ line (spelled phase_line)) f)
    ∙ append_assoc (old ++ spelled_lines before) (line (spelled phase_line)) (spelled_lines (map call_line calls)) ∙ append_assoc old (spelled_lines before) (line (spelled phase_line) ++ spelled_lines (map call_line calls))
    ∙ ap (λ (t : List ℕ). old ++ t) (sym spelling) ∙ ap (λ (ls : List Line). old ++ spelled_lines (caller_line caller ∷ ls)) (sym lines)

-- a further caller
pub caller_written : (v n : Line) (lists : List (List (List Call))) (old more : List ℕ) (i : ℕ) (phases : List (List Call)) → i < length lists → slice_get lists i ≡ Some phases → old ≡ spelled_lines (v ∷ n ∷ callers_lines 0 (take i lists))
    → more ≡ old ++ spelled_lines (caller_line i ∷ phases_lines phases) → more ≡ spelled_lines (v ∷ n ∷ callers_lines 0 (take (i + 1) lists))
caller_written v n lists old more i phases lt e f g =
    let taken : take (i + 1) lists ≡ take i lists ++ phases ∷ [] = take_more lists i phases lt ∙ ap (λ (p : List (List Call)). take i lists ++ p ∷ []) (get_or_from_slice_get lists i phases phases e) in
    let lines = ap (callers_lines 0) taken ∙ callers_last 0 (take i lists) phases i (omega (arith, length-take-le i lists (omega arith))) in
    let before = v ∷ n ∷ callers_lines 0 (take i lists) in
    g ∙ ap (λ (t : List ℕ). t ++ spelled_lines (caller_line i ∷ phases_lines phases)) f ∙ sym (spelled-append before (caller_line i ∷ phases_lines phases)) ∙ ap (λ (ls : List Line). spelled_lines (v ∷ n ∷ ls)) (sym lines)
