-- The plan that joined lists and their cuts are.
use Rattle.std.proofs.Common.{◌≡◌, ℕ, zero, suc, ◌-◌, ◌≤◌, Option, Some, None, List, [], ◌∷◌, ◌++◌, length, map, take, drop, sum_by, slice_get, refl, sym, ap, subst, ◌∙◌, arith}
use Rattle.std.specs.Global.{Vec}
use Rattle.std.proofs.lemmas.List.{append-nil, length-map, take-append-drop}
use Rattle.std.proofs.lemmas.List.Concat.{length-flat_map}
use Rattle.std.proofs.lemmas.List.Sums.{sum_by-cons}
use Rattle.set_model.specs.declared.calls.Call.{Call}
use Rattle.workload_text.specs.Limits.{lists_of, joined, calls_of_all, total_of, phase_lines, AllHavePhases}
use Rattle.workload_text.specs.Cuts.{cut_from, cut_at, AreCuts, cut_all, AllAreCuts, cuts_of, plan_held, IsHeld}
use Rattle.workload_text.proofs.CutLemmas.{length-cut_all, length-cut_from}

joined_cut : (start : ℕ) (cuts : List ℕ) (calls : List Call) → calls_of_all (cut_from start cuts calls) ≡ calls
joined_cut start [] calls = append-nil calls
joined_cut start (cut ∷ cuts) calls = ap (λ (cs : List Call). take (cut - start) calls ++ cs) (joined_cut cut cuts (drop (cut - start) calls)) ∙ take-append-drop (cut - start) calls

joined_all : (lists : List (List Call)) (cuts : List (List ℕ)) → AllAreCuts lists cuts → joined (cut_all lists cuts) ≡ lists
joined_all [] cuts h = refl
joined_all (calls ∷ lists) [] h = absurd h
joined_all (calls ∷ lists) (cs ∷ cuts) h = ap (λ (c : List Call). c ∷ joined (cut_all lists cuts)) (joined_cut 0 cs calls) ∙ ap (λ (ls : List (List Call)). calls ∷ ls) (joined_all lists cuts h.1)

joined_whole : (lists : List (List Call)) → joined (map (λ calls. calls ∷ []) lists) ≡ lists
joined_whole [] = refl
joined_whole (calls ∷ lists) = ap (λ (c : List Call). c ∷ joined (map (λ cs. cs ∷ []) lists)) (append-nil calls) ∙ ap (λ (ls : List (List Call)). calls ∷ ls) (joined_whole lists)

-- the lists that are kept are those of the callers
pub joined_held : (lists : List (Vec Call)) (cuts : Option (Vec (Vec ℕ))) → IsHeld lists cuts → joined (plan_held lists cuts).lists ≡ lists_of lists
joined_held lists None h = joined_whole (lists_of lists)
joined_held lists (Some cuts) h = joined_all (lists_of lists) (cuts_of cuts.items) h.cut

pub length_held : (lists : List (Vec Call)) (cuts : Option (Vec (Vec ℕ))) → IsHeld lists cuts → length (plan_held lists cuts).lists ≡ length lists
length_held lists None h = length-map (lists_of lists) (λ (calls : List Call). calls ∷ []) ∙ length-map lists (λ (v : Vec Call). v.items)
length_held lists (Some cuts) h = length-cut_all (lists_of lists) (cuts_of cuts.items) h.cut ∙ length-map lists (λ (v : Vec Call). v.items)

pub total_joined : (lists : List (List (List Call))) → total_of lists ≡ sum_by length (joined lists)
total_joined [] = refl
total_joined (phases ∷ lists) =
    omega (arith, sum_by-cons (λ ps. sum_by length ps) phases lists, sum_by-cons length (calls_of_all phases) (joined lists), length-flat_map (λ (cs : List Call). cs) phases, total_joined lists)

pub total_held : (lists : List (Vec Call)) (cuts : Option (Vec (Vec ℕ))) → IsHeld lists cuts → total_of (plan_held lists cuts).lists ≡ sum_by length (lists_of lists)
total_held lists cuts h = total_joined (plan_held lists cuts).lists ∙ ap (sum_by length) (joined_held lists cuts h)

-- ---- cuts

length_cuts : (lists : List (List Call)) (cuts : List (List ℕ)) → AllAreCuts lists cuts → length cuts ≡ length lists
length_cuts [] [] h = refl
length_cuts [] (cs ∷ cuts) h = absurd h
length_cuts (calls ∷ lists) [] h = absurd h
length_cuts (calls ∷ lists) (cs ∷ cuts) h = omega (arith, length_cuts lists cuts h.1)

pub length_cuts_held : (lists : List (Vec Call)) (cuts : Vec (Vec ℕ)) → IsHeld lists (Some cuts) → length cuts.items ≡ length lists
length_cuts_held lists cuts h = omega (arith, length_cuts (lists_of lists) (cuts_of cuts.items) h.cut, length-map lists (λ (v : Vec Call). v.items), length-map cuts.items (λ (v : Vec ℕ). v.items))

pub some_is : {A : Type 0} (x y : A) → Some x ≡ Some y → x ≡ y
some_is x y e = cc

pub none_is : {A : Type 0} (x : A) → None ≡ Some x → ⊥
none_is x e = cc

-- the phases of a caller
pub phases_of_caller : (lists : List (List Call)) (cuts : List (List ℕ)) (caller : ℕ) (calls : List Call) (cs : List ℕ) → AllAreCuts lists cuts → slice_get lists caller ≡ Some calls → slice_get cuts caller ≡ Some cs
    → AreCuts 0 cs (length calls) × (slice_get (cut_all lists cuts) caller ≡ Some (cut_at cs calls))
phases_of_caller [] cuts caller calls cs h e f = absurd (none_is calls e)
phases_of_caller (l ∷ lists) [] caller calls cs h e f = absurd h
phases_of_caller (l ∷ lists) (c ∷ cuts) zero calls cs h e f =
    let one = some_is l calls e in
    let two = some_is c cs f in
    (subst (λ (x : List Call). AreCuts 0 cs (length x)) one (subst (λ (x : List ℕ). AreCuts 0 x (length l)) two h.0), ap (λ (x : List Call). Some (cut_at c x)) one ∙ ap (λ (x : List ℕ). Some (cut_at x calls)) two)
phases_of_caller (l ∷ lists) (c ∷ cuts) (suc caller) calls cs h e f = phases_of_caller lists cuts caller calls cs h.1 e f

-- how many phases each caller has
pub cuts_of_caller : (count : ℕ) (lists : List (List Call)) (cuts : List (List ℕ)) (caller : ℕ) (cs : List ℕ) → AllAreCuts lists cuts → AllHavePhases count (cut_all lists cuts) → slice_get cuts caller ≡ Some cs → length cs ≡ count
cuts_of_caller count [] [] caller cs h k f = absurd (none_is cs f)
cuts_of_caller count [] (c ∷ cuts) caller cs h k f = absurd h
cuts_of_caller count (l ∷ lists) [] caller cs h k f = absurd h
cuts_of_caller count (l ∷ lists) (c ∷ cuts) zero cs h k f = let two = some_is c cs f in omega (arith, ap length two, k.0, length-cut_from 0 c l)
cuts_of_caller count (l ∷ lists) (c ∷ cuts) (suc caller) cs h k f = cuts_of_caller count lists cuts caller cs h.1 k.1 f

pub whole_phase : (lists : List (List Call)) (caller phase : ℕ) (calls : List Call) (phases : List (List Call)) → slice_get lists caller ≡ Some calls → slice_get (map (λ cs. cs ∷ []) lists) caller ≡ Some phases → phase ≡ 0 → slice_get phases phase ≡ Some calls
whole_phase [] caller phase calls phases e f z = absurd (none_is calls e)
whole_phase (l ∷ lists) zero phase calls phases e f z =
    let one = some_is l calls e in
    let two = some_is (l ∷ []) phases f in
    ap (slice_get phases) z ∙ ap (λ (ps : List (List Call)). slice_get ps 0) (sym two) ∙ ap Some one
whole_phase (l ∷ lists) (suc caller) phase calls phases e f z = whole_phase lists caller phase calls phases e f z

-- ---- at a caller and a phase

phases_lawful : (lists : List (Vec Call)) (cuts : Vec (Vec ℕ)) → IsHeld lists (Some cuts) → AllHavePhases (phase_lines (plan_held lists (Some cuts)).lists) (cut_all (lists_of lists) (cuts_of cuts.items))
phases_lawful lists cuts h = h.workload.same_phases

pub cuts_held : (lists : List (Vec Call)) (cuts : Vec (Vec ℕ)) (caller : ℕ) (cs : List ℕ) → IsHeld lists (Some cuts) → slice_get (cuts_of cuts.items) caller ≡ Some cs → length cs ≡ phase_lines (plan_held lists (Some cuts)).lists
cuts_held lists cuts caller cs h f = cuts_of_caller (phase_lines (plan_held lists (Some cuts)).lists) (lists_of lists) (cuts_of cuts.items) caller cs h.cut h.workload.same_phases f

no_lines : (lists : List (List Call)) → phase_lines (map (λ calls. calls ∷ []) lists) ≡ 0
no_lines [] = refl
no_lines (calls ∷ lists) = omega arith

-- the phase of a workload of version 1 is all
pub whole_held : (lists : List (Vec Call)) (caller phase : ℕ) (calls : List Call) (phases : List (List Call)) → phase ≤ phase_lines (plan_held lists None).lists → slice_get (lists_of lists) caller ≡ Some calls → slice_get (plan_held lists None).lists caller ≡ Some phases
    → slice_get phases phase ≡ Some calls
whole_held lists caller phase calls phases le e f = whole_phase (lists_of lists) caller phase calls phases e f (omega (arith, no_lines (lists_of lists)))
