-- How long a workload's text is at most.
use Rattle.std.proofs.Common.{◌≡◌, ℕ, ◌+◌, ◌*◌, ◌^◌, ◌<◌, ◌≤◌, inl, inr, List, [], ◌∷◌, ◌++◌, length, map, codes, decimal, arith, length-append}
use Rattle.std.specs.List.{sum_by, AllByRecursion}
use Rattle.std.proofs.lemmas.Fmt.{length-decimal-le}
use Rattle.std.proofs.lemmas.List.Sums.{sum_by-cons}
use Rattle.set_model.specs.declared.calls.Call.{Call}
use Rattle.set_model.specs.declared.calls.Call.TheVariants.{Insert, Remove, Search}
use Rattle.text_lines.specs.Lines.{line, numbered}
use Rattle.text_lines.specs.Calls.{call_text}
use Rattle.workload_text.specs.Limits.{Plan, HasLawfulKey, AreLawful, AllHavePhases, IsWorkload, phase_lines, total_of}
use Rattle.workload_text.specs.Text.{Line, version_line, callers_line, call_line, phase_line, end_line, spelled, spelled_lines, later_lines, phases_lines, callers_lines, text_of}

-- a numbered line is its word, a blank, the digits and a line feed
length-numbered : (word : List ℕ) (n most : ℕ) → 0 < most → n < 10 ^ most → n < 2 ^ 64 → length (line (numbered word n)) ≤ length word + most + 2
length-numbered word n most some fits wide =
    omega (arith, length-append (numbered word n) (10 ∷ []), length-append word (32 ∷ decimal n), length-decimal-le most n some fits wide)

length-call : (call : Call) → HasLawfulKey call → length (line (call_text call)) ≤ 16
length-call (Insert key) lawful = omega (arith, length-numbered (codes "i") key 13 (omega arith) (omega arith) (omega arith))
length-call (Remove key) lawful = omega (arith, length-numbered (codes "r") key 13 (omega arith) (omega arith) (omega arith))
length-call (Search key) lawful = omega (arith, length-numbered (codes "s") key 13 (omega arith) (omega arith) (omega arith))

-- lines, and then further ones
length-lines : (xs ys : List Line) → length (spelled_lines (xs ++ ys)) ≡ length (spelled_lines xs) + length (spelled_lines ys)
length-lines [] ys = omega arith
length-lines (x ∷ xs) ys = omega (
  arith,
  length-append (line (spelled x)) (spelled_lines (xs ++ ys)),
  length-append (line (spelled x)) (spelled_lines xs),
  length-lines xs ys,
)

length-calls : (calls : List Call) → AreLawful calls → length (spelled_lines (map call_line calls)) ≤ 16 * length calls
length-calls [] all = omega arith
length-calls (call ∷ calls) all =
    omega (arith, length-append (line (call_text call)) (spelled_lines (map call_line calls)), length-call call all.0, length-calls calls all.1)

length-later : (phases : List (List Call)) → AllByRecursion AreLawful phases → length (spelled_lines (later_lines phases)) ≤ 6 * length phases + 16 * sum_by length phases
length-later [] all = omega arith
length-later (calls ∷ phases) all = omega (
  arith,
  length-append (line (spelled phase_line)) (spelled_lines (map call_line calls ++ later_lines phases)),
  length-lines (map call_line calls) (later_lines phases),
  length-calls calls all.0,
  length-later phases all.1,
  sum_by-cons length calls phases,
)

length-phases : (phases : List (List Call)) → AllByRecursion AreLawful phases → length (spelled_lines (phases_lines phases)) ≤ 6 * length phases + 16 * sum_by length phases
length-phases [] all = omega arith
length-phases (calls ∷ phases) all = omega (
  arith,
  length-lines (map call_line calls) (later_lines phases),
  length-calls calls all.0,
  length-later phases all.1,
  sum_by-cons length calls phases,
)

-- the line of a caller has at most ten bytes, and its lines `phase` at most 6,006
length-callers : (first count : ℕ) (lists : List (List (List Call))) → first + length lists < 100 → count ≤ 1000 → AllHavePhases count lists → AllByRecursion (AllByRecursion AreLawful) lists
    → length (spelled_lines (callers_lines first lists)) ≤ 6016 * length lists + 16 * total_of lists
length-callers first count [] few short same all = omega arith
length-callers first count (phases ∷ lists) few short same all = omega (
  arith,
  length-append (line (numbered (codes "caller") first)) (spelled_lines (phases_lines phases ++ callers_lines (first + 1) lists)),
  length-numbered (codes "caller") first 2 (omega arith) (omega arith) (omega arith),
  length-lines (phases_lines phases) (callers_lines (first + 1) lists),
  length-phases phases all.0,
  same.0,
  length-callers (first + 1) count lists (omega arith) short same.1 all.1,
  sum_by-cons (λ (ps : List (List Call)). sum_by length ps) phases lists,
)

small_version : (plan : Plan) → IsWorkload plan → plan.version < 10
small_version plan w = elim w.lawful_version [ inl one ↦ omega (arith, one.0) | inr two ↦ omega (arith, two) ]

-- 1,000,000 lines of calls, 64 callers with 1,000 lines `phase` each, and the lines around them: this is well below
-- the bytes that a program reads
pub length-text_of-le : (plan : Plan) → IsWorkload plan → length (text_of plan) ≤ 16385050
length-text_of-le plan w =
    let lists = plan.lists in
    let callers = callers_lines 0 lists in
    omega (
      arith,
      length-append (line (spelled (version_line plan.version))) (spelled_lines (callers_line (length lists) ∷ (callers ++ end_line ∷ []))),
      length-append (line (spelled (callers_line (length lists)))) (spelled_lines (callers ++ end_line ∷ [])),
      length-lines callers (end_line ∷ []),
      length-numbered (codes "setbench") plan.version 1 (omega arith) (omega (arith, small_version plan w)) (omega (arith, small_version plan w)),
      length-numbered (codes "callers") (length lists) 2 (omega arith) (omega (arith, w.few_callers)) (omega (arith, w.few_callers)),
      length-callers 0 (phase_lines lists) lists (omega (arith, w.few_callers)) w.few_phases w.same_phases w.lawful_keys,
      w.few_calls,
      w.few_callers,
    )
