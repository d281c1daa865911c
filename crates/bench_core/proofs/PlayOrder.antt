-- The order of play: what follows in it, whose calls they are, and how many.
use Rattle.std.proofs.Common.{◌≡◌, ◌≢◌, ℕ, zero, suc, ◌+◌, ◌-◌, ◌<◌, ◌≤◌, Bool, cond, eqb, true, false, Some, List, [], ◌∷◌, ◌++◌, length, get_or, slice_get, drop, sym, ap, ◌∙◌, refl, arith, drop-cons, length-append, sum_by, eq-eqb, ne_eqb}
use Rattle.std.specs.List.{AllByRecursion}
use Rattle.std.proofs.lemmas.List.{drop_all}
use Rattle.std.proofs.lemmas.List.Sums.{sum_by-cons}
use Rattle.std.proofs.lemmas.List.Concat.{length-flat_map, flat_map-append}
use Rattle.std.proofs.lemmas.Option.{slice_get-get_or, get_or_from_slice_get}
use Rattle.set_model.specs.declared.calls.Call.{Call}
use Rattle.set_model.specs.Keys.{Keys}
use Rattle.set_model.specs.Machine.{replies_of, keys_after_all, insertions_in}
use Rattle.set_model.proofs.MachineRuns.{length-replies_of, insertions_in-le-length}
use Rattle.workload_text.specs.Limits.{AllHavePhases, AreLawful, HasLawfulKey, IsWorkload, Plan, calls_of_all, joined, phase_lines, total_of}
use Rattle.workload_text.proofs.Held.{total_joined}
use Rattle.bench_core.specs.Plays.{Piece, pieces_in, pieces_over, order_of, called, told_to}
use Rattle.bench_core.proofs.PlainRuns.{insertions_in-append, lawful-append}

-- what follows in the order from this phase on
abbrev pub rest_at : List (List (List Call)) → ℕ → List Piece
rest_at lists phase = pieces_over phase (phase_lines lists + 1 - phase) lists

-- and from this caller on in this phase
abbrev pub rest_in : List (List (List Call)) → ℕ → ℕ → List Piece
rest_in lists phase caller = pieces_in phase (drop caller lists) caller ++ pieces_over (suc phase) (phase_lines lists - phase) lists

pub rest-whole : (lists : List (List (List Call))) → rest_at lists 0 ≡ order_of lists
rest-whole lists =
    let all : phase_lines lists + 1 - 0 ≡ phase_lines lists + 1 = omega arith in
    ap (λ count. pieces_over 0 count lists) all

pub rest-turn : (lists : List (List (List Call))) (phase caller : ℕ) (calls : List Call) → caller < length lists
    → ((phases : List (List Call)) → slice_get lists caller ≡ Some phases → slice_get phases phase ≡ Some calls)
    → rest_in lists phase caller ≡ record { caller = caller; calls = calls } ∷ rest_in lists phase (suc caller)
rest-turn lists phase caller calls within is =
    let phases = get_or lists caller [] in
    let here : get_or phases phase [] ≡ calls = get_or_from_slice_get phases phase calls [] (is phases (slice_get-get_or lists caller [] within)) in
    ap (λ held. pieces_in phase held caller ++ pieces_over (suc phase) (phase_lines lists - phase) lists) (drop-cons lists caller [] within)
    ∙ ap (λ own. record { caller = caller; calls = own } ∷ rest_in lists phase (suc caller)) here

pub rest-none : (lists : List (List (List Call))) (phase : ℕ) → phase_lines lists + 1 ≤ phase → rest_at lists phase ≡ []
rest-none lists phase past =
    let none : phase_lines lists + 1 - phase ≡ 0 = omega (arith, past) in
    ap (λ count. pieces_over phase count lists) none

-- how many of the pieces' calls are this caller's
abbrev pub own_count : ℕ → List Piece → ℕ
own_count caller [] = 0
own_count caller (piece ∷ pieces) = cond (eqb piece.caller caller) (length piece.calls) 0 + own_count caller pieces

length-own : (own : Bool) (calls : List Call) (keys : Keys) → length (cond own (replies_of calls keys) []) ≡ cond own (length calls) 0
length-own true calls keys = length-replies_of calls keys
length-own false calls keys = refl

pub length-told_to : (caller : ℕ) (pieces : List Piece) (keys : Keys) → length (told_to caller pieces keys) ≡ own_count caller pieces
length-told_to caller [] keys = refl
length-told_to caller (piece ∷ pieces) keys =
    let rest = told_to caller pieces (keys_after_all piece.calls keys) in
    omega (
      arith,
      length-append (cond (eqb piece.caller caller) (replies_of piece.calls keys) []) rest,
      length-own (eqb piece.caller caller) piece.calls keys,
      length-told_to caller pieces (keys_after_all piece.calls keys),
    )

own_count-append : (caller : ℕ) (pieces more : List Piece) → own_count caller (pieces ++ more) ≡ own_count caller pieces + own_count caller more
own_count-append caller [] more = omega arith
own_count-append caller (piece ∷ pieces) more = omega (arith, own_count-append caller pieces more)

own_count-before : (phase : ℕ) (lists : List (List (List Call))) (first caller : ℕ) → caller < first → own_count caller (pieces_in phase lists first) ≡ 0
own_count-before phase [] first caller before = refl
own_count-before phase (phases ∷ lists) first caller before =
    let others : first ≢ caller = omega (arith, before) in
    let more : caller < suc first = omega (arith, before) in
    rw (ne_eqb first caller others) (omega (arith, own_count-before phase lists (suc first) caller more))

own_count-in : (phase : ℕ) (lists : List (List (List Call))) (first place caller : ℕ) → caller ≡ first + place
    → own_count caller (pieces_in phase lists first) ≡ length (get_or (get_or lists place []) phase [])
own_count-in phase [] first place caller is = refl
own_count-in phase (phases ∷ lists) first zero caller is =
    let same : first ≡ caller = omega (arith, is) in
    let later : caller < suc first = omega (arith, is) in
    rw (eq-eqb first caller same) (omega (arith, own_count-before phase lists (suc first) caller later))
own_count-in phase (phases ∷ lists) first (suc place) caller is =
    let others : first ≢ caller = omega (arith, is) in
    let next : caller ≡ suc first + place = omega (arith, is) in
    rw (ne_eqb first caller others) (omega (arith, own_count-in phase lists (suc first) place caller next))

-- what f counts in so many phases from this one on
abbrev stretch : (List Call → ℕ) → ℕ → ℕ → List (List Call) → ℕ
stretch f phase zero phases = 0
stretch f phase (suc count) phases = f (get_or phases phase []) + stretch f (suc phase) count phases

own_count-over : (phase count : ℕ) (lists : List (List (List Call))) (caller : ℕ) → own_count caller (pieces_over phase count lists) ≡ stretch (λ calls. length calls) phase count (get_or lists caller [])
own_count-over phase zero lists caller = refl
own_count-over phase (suc count) lists caller =
    let here : caller ≡ 0 + caller = omega arith in
    omega (
      arith,
      own_count-append caller (pieces_in phase lists 0) (pieces_over (suc phase) count lists),
      own_count-in phase lists 0 caller caller here,
      own_count-over (suc phase) count lists caller,
    )

stretch-all : (f : List Call → ℕ) (phase count : ℕ) (phases : List (List Call)) → phase + count ≡ length phases → stretch f phase count phases ≡ sum_by f (drop phase phases)
stretch-all f phase zero phases all =
    let past : length phases ≤ phase = omega (arith, all) in
    sym (ap (λ rest. sum_by f rest) (drop_all phase phases past))
stretch-all f phase (suc count) phases all =
    let within : phase < length phases = omega (arith, all) in
    let next : suc phase + count ≡ length phases = omega (arith, all) in
    omega (
      arith,
      ap (λ rest. sum_by f rest) (drop-cons phases phase [] within),
      sum_by-cons f (get_or phases phase []) (drop (suc phase) phases),
      stretch-all f (suc phase) count phases next,
    )

phases-at : (count : ℕ) (lists : List (List (List Call))) (caller : ℕ) → AllHavePhases count lists → caller < length lists → length (get_or lists caller []) ≡ count + 1
phases-at count [] caller all within = absurd (omega (arith, within))
phases-at count (phases ∷ lists) zero all within = all.0
phases-at count (phases ∷ lists) (suc caller) all within = phases-at count lists caller all.1 (omega (arith, within))

length-joined : (lists : List (List (List Call))) (caller : ℕ) → length (get_or (joined lists) caller []) ≡ sum_by length (get_or lists caller [])
length-joined [] caller = refl
length-joined (phases ∷ lists) zero = length-flat_map (λ calls. calls) phases
length-joined (phases ∷ lists) (suc caller) = length-joined lists caller

-- in the whole order there are as many calls of a caller as it has
pub own_count-order : (plan : Plan) → IsWorkload plan → (caller : ℕ) → caller < length plan.lists
    → own_count caller (order_of plan.lists) ≡ length (get_or (joined plan.lists) caller [])
own_count-order plan limits caller within =
    let phases = get_or plan.lists caller [] in
    let all : 0 + (phase_lines plan.lists + 1) ≡ length phases = omega (arith, phases-at (phase_lines plan.lists) plan.lists caller limits.same_phases within) in
    own_count-over 0 (phase_lines plan.lists + 1) plan.lists caller ∙ stretch-all (λ calls. length calls) 0 (phase_lines plan.lists + 1) phases all ∙ sym (length-joined plan.lists caller)

sum_by-both : (f g : List (List Call) → ℕ) (lists : List (List (List Call))) → sum_by (λ phases. f phases + g phases) lists ≡ sum_by f lists + sum_by g lists
sum_by-both f g [] = omega arith
sum_by-both f g (phases ∷ lists) =
    omega (arith, sum_by-both f g lists, sum_by-cons f phases lists, sum_by-cons g phases lists, sum_by-cons (λ p. f p + g p) phases lists)

sum_by-none : (lists : List (List (List Call))) → sum_by (λ phases. 0) lists ≡ 0
sum_by-none [] = refl
sum_by-none (phases ∷ lists) = omega (arith, sum_by-none lists, sum_by-cons (λ p. 0) phases lists)

called-append : (pieces more : List Piece) → called (pieces ++ more) ≡ called pieces ++ called more
called-append pieces more = flat_map-append (λ piece. piece.calls) pieces more

-- A count over calls, as that of all calls and that of the insertions: of two lists joined it is the sum.
module _ (f : List Call → ℕ) (none : f [] ≡ 0) (append : (calls more : List Call) → f (calls ++ more) ≡ f calls + f more) where
  counted-in : (phase : ℕ) (lists : List (List (List Call))) (first : ℕ) → f (called (pieces_in phase lists first)) ≡ sum_by (λ phases. f (get_or phases phase [])) lists
  counted-in phase [] first = none
  counted-in phase (phases ∷ lists) first =
      omega (
        arith,
        append (get_or phases phase []) (called (pieces_in phase lists (suc first))),
        counted-in phase lists (suc first),
        sum_by-cons (λ p. f (get_or p phase [])) phases lists,
      )

  counted-over : (phase count : ℕ) (lists : List (List (List Call))) → f (called (pieces_over phase count lists)) ≡ sum_by (λ phases. stretch f phase count phases) lists
  counted-over phase zero lists = none ∙ sym (sum_by-none lists)
  counted-over phase (suc count) lists =
      omega (
        arith,
        ap f (called-append (pieces_in phase lists 0) (pieces_over (suc phase) count lists)),
        append (called (pieces_in phase lists 0)) (called (pieces_over (suc phase) count lists)),
        counted-in phase lists 0,
        counted-over (suc phase) count lists,
        sum_by-both (λ phases. f (get_or phases phase [])) (λ phases. stretch f (suc phase) count phases) lists,
      )

  counted-joined : (phases : List (List Call)) → f (calls_of_all phases) ≡ sum_by f phases
  counted-joined [] = none
  counted-joined (calls ∷ phases) = omega (arith, append calls (calls_of_all phases), counted-joined phases, sum_by-cons f calls phases)

  stretches-all : (count : ℕ) (lists : List (List (List Call))) → AllHavePhases count lists → sum_by (λ phases. stretch f 0 (count + 1) phases) lists ≡ sum_by f (joined lists)
  stretches-all count [] all = refl
  stretches-all count (phases ∷ lists) all =
      let whole : 0 + (count + 1) ≡ length phases = omega (arith, all.0) in
      omega (
        arith,
        stretches-all count lists all.1,
        stretch-all f 0 (count + 1) phases whole,
        counted-joined phases,
        sum_by-cons (λ p. stretch f 0 (count + 1) p) phases lists,
        sum_by-cons f (calls_of_all phases) (joined lists),
      )

  -- in the order of play it comes to what it comes to list by list
  counted-order : (plan : Plan) → IsWorkload plan → f (called (order_of plan.lists)) ≡ sum_by f (joined plan.lists)
  counted-order plan limits = counted-over 0 (phase_lines plan.lists + 1) plan.lists ∙ stretches-all (phase_lines plan.lists) plan.lists limits.same_phases

-- of all callers there are as many calls as the workload has
pub length-called : (plan : Plan) → IsWorkload plan → length (called (order_of plan.lists)) ≡ total_of plan.lists
length-called plan limits = counted-order (λ calls. length calls) refl length-append plan limits ∙ sym (total_joined plan.lists)

-- and the insertions are those of each list
pub insertions-called : (plan : Plan) → IsWorkload plan → insertions_in (called (order_of plan.lists)) ≡ sum_by insertions_in (joined plan.lists)
insertions-called plan limits = counted-order insertions_in refl insertions_in-append plan limits

pub insertions-few : (plan : Plan) → IsWorkload plan → sum_by insertions_in (joined plan.lists) ≤ 1000000
insertions-few plan limits =
    omega (arith, insertions-called plan limits, insertions_in-le-length (called (order_of plan.lists)), length-called plan limits, limits.few_calls)

lawful-at : (phase : ℕ) (phases : List (List Call)) → AllByRecursion AreLawful phases → AreLawful (get_or phases phase [])
lawful-at phase [] all = tt
lawful-at zero (calls ∷ phases) all = all.0
lawful-at (suc phase) (calls ∷ phases) all = lawful-at phase phases all.1

lawful-in : (phase : ℕ) (lists : List (List (List Call))) (first : ℕ) → AllByRecursion (AllByRecursion AreLawful) lists → AreLawful (called (pieces_in phase lists first))
lawful-in phase [] first all = tt
lawful-in phase (phases ∷ lists) first all =
    lawful-append HasLawfulKey (get_or phases phase []) (called (pieces_in phase lists (suc first))) (lawful-at phase phases all.0) (lawful-in phase lists (suc first) all.1)

lawful-over : (phase count : ℕ) (lists : List (List (List Call))) → AllByRecursion (AllByRecursion AreLawful) lists → AreLawful (called (pieces_over phase count lists))
lawful-over phase zero lists all = tt
lawful-over phase (suc count) lists all =
    rw (called-append (pieces_in phase lists 0) (pieces_over (suc phase) count lists))
    (lawful-append HasLawfulKey (called (pieces_in phase lists 0)) (called (pieces_over (suc phase) count lists)) (lawful-in phase lists 0 all) (lawful-over (suc phase) count lists all))

pub lawful-called : (plan : Plan) → IsWorkload plan → AreLawful (called (order_of plan.lists))
lawful-called plan limits = lawful-over 0 (phase_lines plan.lists + 1) plan.lists limits.lawful_keys

few-at : (lists : List (List (List Call))) (caller : ℕ) → sum_by length (get_or lists caller []) ≤ total_of lists
few-at [] caller = omega arith
few-at (phases ∷ lists) zero = omega (arith, sum_by-cons (λ p. sum_by length p) phases lists)
few-at (phases ∷ lists) (suc caller) = omega (arith, few-at lists caller, sum_by-cons (λ p. sum_by length p) phases lists)

pub joined-few : (plan : Plan) → IsWorkload plan → (caller : ℕ) → length (get_or (joined plan.lists) caller []) ≤ 1000000
joined-few plan limits caller = omega (arith, length-joined plan.lists caller, few-at plan.lists caller, limits.few_calls)
