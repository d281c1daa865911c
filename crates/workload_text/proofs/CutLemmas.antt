-- Phases that are kept joined: what a further call, a further phase and a further caller make of them.
use Rattle.std.proofs.Common.{◌≡◌, ℕ, ◌+◌, ◌-◌, ◌≤◌, List, [], ◌∷◌, ◌++◌, length, map, take, drop, refl, sym, ap, ◌∙◌, append_assoc, arith, length-drop}
use Rattle.std.proofs.lemmas.List.{append-nil, take-append-le, drop-append-le, map-append}
use Rattle.std.proofs.Math.Seq.{take-append_seam, drop-append_seam}
use Rattle.set_model.specs.declared.calls.Call.{Call}
use Rattle.workload_text.specs.Limits.{AllHavePhases}
use Rattle.workload_text.specs.Cuts.{cut_from, cut_at, AreCuts, cut_all, AllAreCuts}
use Rattle.workload_text.specs.Text.{Line, call_line, caller_line, phase_line, later_lines, phases_lines, callers_lines}
use Rattle.workload_text.proofs.Parsed.{AllHaveSome}

pub cuts_rise : (start : ℕ) (cuts : List ℕ) (end : ℕ) → AreCuts start cuts end → start ≤ end
cuts_rise start [] end h = h
cuts_rise start (cut ∷ cuts) end h = omega (arith, h.0, cuts_rise cut cuts end h.1)

pub cuts_more : (start : ℕ) (cuts : List ℕ) (end more : ℕ) → end ≤ more → AreCuts start cuts end → AreCuts start cuts more
cuts_more start [] end more le h = omega arith
cuts_more start (cut ∷ cuts) end more le h = (h.0, cuts_more cut cuts end more le h.1)

pub cuts_push : (start : ℕ) (cuts : List ℕ) (end : ℕ) → AreCuts start cuts end → AreCuts start (cuts ++ end ∷ []) end
cuts_push start [] end h = (h, omega arith)
cuts_push start (cut ∷ cuts) end h = (h.0, cuts_push cut cuts end h.1)

left_of : (start cut end : ℕ) (calls : List Call) → end ≡ start + length calls → start ≤ cut → cut ≤ end → end ≡ cut + length (drop (cut - start) calls)
left_of start cut end calls e low high = omega (arith, length-drop (cut - start) calls)

pub length-cut_from : (start : ℕ) (cuts : List ℕ) (calls : List Call) → length (cut_from start cuts calls) ≡ length cuts + 1
length-cut_from start [] calls = refl
length-cut_from start (cut ∷ cuts) calls = omega (arith, length-cut_from cut cuts (drop (cut - start) calls))

-- ---- further calls

pub cut_calls : (start : ℕ) (cuts : List ℕ) (end : ℕ) (calls more : List Call) → AreCuts start cuts end → end ≡ start + length calls
    → later_lines (cut_from start cuts (calls ++ more)) ≡ later_lines (cut_from start cuts calls) ++ map call_line more
cut_calls start [] end calls more h e =
    ap (λ (ls : List Line). phase_line ∷ ls) (append-nil (map call_line (calls ++ more)) ∙ map-append call_line calls more ∙ ap (λ (ls : List Line). ls ++ map call_line more) (sym (append-nil (map call_line calls))))
cut_calls start (cut ∷ cuts) end calls more h e =
    let within : cut - start ≤ length calls = omega (arith, h.0, cuts_rise cut cuts end h.1) in
    let others = cut_calls cut cuts end (drop (cut - start) calls) more h.1 (left_of start cut end calls e h.0 (cuts_rise cut cuts end h.1)) in
    let front = take-append-le (cut - start) calls more within in
    let back = drop-append-le (cut - start) calls more within in
    ap (λ (ls : List Line). phase_line ∷ ls)
    (ap (λ (cs : List Call). map call_line cs ++ later_lines (cut_from cut cuts (drop (cut - start) (calls ++ more)))) front
    ∙ ap (λ (cs : List Call). map call_line (take (cut - start) calls) ++ later_lines (cut_from cut cuts cs)) back
    ∙ ap (λ (ls : List Line). map call_line (take (cut - start) calls) ++ ls) others
    ∙ sym (append_assoc (map call_line (take (cut - start) calls)) (later_lines (cut_from cut cuts (drop (cut - start) calls))) (map call_line more)))

-- the lines of the first phase and of the later ones
behind_phase : (phases : List (List Call)) (calls : List Call) (xs : List Line) → later_lines (calls ∷ phases) ≡ phase_line ∷ xs → phases_lines (calls ∷ phases) ≡ xs
behind_phase phases calls xs e = cc

pub phases_calls : (cuts : List ℕ) (calls more : List Call) → AreCuts 0 cuts (length calls) → phases_lines (cut_at cuts (calls ++ more)) ≡ phases_lines (cut_at cuts calls) ++ map call_line more
phases_calls [] calls more h = behind_phase [] (calls ++ more) (phases_lines (cut_at [] calls) ++ map call_line more) (cut_calls 0 [] (length calls) calls more h (omega arith))
phases_calls (cut ∷ cuts) calls more h =
    behind_phase (cut_from cut cuts (drop (cut - 0) (calls ++ more))) (take (cut - 0) (calls ++ more)) (phases_lines (cut_at (cut ∷ cuts) calls) ++ map call_line more) (cut_calls 0 (cut ∷ cuts) (length calls) calls more h (omega arith))

-- ---- a further phase

pub cut_phase : (start : ℕ) (cuts : List ℕ) (end : ℕ) (calls more : List Call) → AreCuts start cuts end → end ≡ start + length calls
    → cut_from start (cuts ++ end ∷ []) (calls ++ more) ≡ cut_from start cuts calls ++ more ∷ []
cut_phase start [] end calls more h e =
    let size : end - start ≡ length calls = omega arith in
    let front : take (end - start) (calls ++ more) ≡ calls = ap (λ (n : ℕ). take n (calls ++ more)) size ∙ take-append_seam calls more in
    let back : drop (end - start) (calls ++ more) ≡ more = ap (λ (n : ℕ). drop n (calls ++ more)) size ∙ drop-append_seam calls more in
    ap (λ (cs : List Call). cs ∷ drop (end - start) (calls ++ more) ∷ []) front ∙ ap (λ (cs : List Call). calls ∷ cs ∷ []) back
cut_phase start (cut ∷ cuts) end calls more h e =
    let high = cuts_rise cut cuts end h.1 in
    let within : cut - start ≤ length calls = omega (arith, h.0, high) in
    let others = cut_phase cut cuts end (drop (cut - start) calls) more h.1 (left_of start cut end calls e h.0 high) in
    let front = take-append-le (cut - start) calls more within in
    let back = drop-append-le (cut - start) calls more within in
    ap (λ (cs : List Call). cs ∷ cut_from cut (cuts ++ end ∷ []) (drop (cut - start) (calls ++ more))) front
    ∙ ap (λ (cs : List Call). take (cut - start) calls ∷ cut_from cut (cuts ++ end ∷ []) cs) back
    ∙ ap (λ (ps : List (List Call)). take (cut - start) calls ∷ ps) others

later_push : (phases : List (List Call)) → later_lines (phases ++ [] ∷ []) ≡ later_lines phases ++ phase_line ∷ []
later_push [] = refl
later_push (calls ∷ phases) =
    ap (λ (ls : List Line). phase_line ∷ (map call_line calls ++ ls)) (later_push phases) ∙ ap (λ (ls : List Line). phase_line ∷ ls) (sym (append_assoc (map call_line calls) (later_lines phases) (phase_line ∷ [])))

phases_push : (phases : List (List Call)) → 1 ≤ length phases → phases_lines (phases ++ [] ∷ []) ≡ phases_lines phases ++ phase_line ∷ []
phases_push [] h = absurd (omega arith)
phases_push (calls ∷ phases) h = ap (λ (ls : List Line). map call_line calls ++ ls) (later_push phases) ∙ sym (append_assoc (map call_line calls) (later_lines phases) (phase_line ∷ []))

pub phases_phase : (cuts : List ℕ) (calls : List Call) → AreCuts 0 cuts (length calls) → phases_lines (cut_at (cuts ++ length calls ∷ []) calls) ≡ phases_lines (cut_at cuts calls) ++ phase_line ∷ []
phases_phase cuts calls h =
    let more = cut_phase 0 cuts (length calls) calls [] h (omega arith) in
    let same = ap (λ (cs : List Call). cut_at (cuts ++ length calls ∷ []) cs) (sym (append-nil calls)) in
    ap phases_lines (same ∙ more) ∙ phases_push (cut_at cuts calls) (omega (arith, length-cut_from 0 cuts calls))

-- ---- callers

pub length-cut_all : (lists : List (List Call)) (cuts : List (List ℕ)) → AllAreCuts lists cuts → length (cut_all lists cuts) ≡ length lists
length-cut_all [] [] h = refl
length-cut_all [] (cs ∷ cuts) h = absurd h
length-cut_all (calls ∷ lists) [] h = absurd h
length-cut_all (calls ∷ lists) (cs ∷ cuts) h = omega (arith, length-cut_all lists cuts h.1)

pub cut_all-push : (lists : List (List Call)) (cuts : List (List ℕ)) (calls : List Call) (cs : List ℕ) → AllAreCuts lists cuts → cut_all (lists ++ calls ∷ []) (cuts ++ cs ∷ []) ≡ cut_all lists cuts ++ cut_at cs calls ∷ []
cut_all-push [] [] calls cs h = refl
cut_all-push [] (c ∷ cuts) calls cs h = absurd h
cut_all-push (l ∷ lists) [] calls cs h = absurd h
cut_all-push (l ∷ lists) (c ∷ cuts) calls cs h = ap (λ (ls : List (List (List Call))). cut_at c l ∷ ls) (cut_all-push lists cuts calls cs h.1)

pub AllAreCuts-push : (lists : List (List Call)) (cuts : List (List ℕ)) (calls : List Call) (cs : List ℕ) → AllAreCuts lists cuts → AreCuts 0 cs (length calls) → AllAreCuts (lists ++ calls ∷ []) (cuts ++ cs ∷ [])
AllAreCuts-push [] [] calls cs h k = (k, tt)
AllAreCuts-push [] (c ∷ cuts) calls cs h k = absurd h
AllAreCuts-push (l ∷ lists) [] calls cs h k = absurd h
AllAreCuts-push (l ∷ lists) (c ∷ cuts) calls cs h k = (h.0, AllAreCuts-push lists cuts calls cs h.1 k)

pub cut_all_some : (lists : List (List Call)) (cuts : List (List ℕ)) → AllHaveSome (cut_all lists cuts)
cut_all_some [] cuts = tt
cut_all_some (l ∷ lists) [] = tt
cut_all_some (l ∷ lists) (c ∷ cuts) = (omega (arith, length-cut_from 0 c l), cut_all_some lists cuts)

pub some-push : (lists : List (List (List Call))) (phases : List (List Call)) → AllHaveSome lists → 1 ≤ length phases → AllHaveSome (lists ++ phases ∷ [])
some-push [] phases h k = (k, tt)
some-push (l ∷ lists) phases h k = (h.0, some-push lists phases h.1 k)

pub callers_last : (first : ℕ) (lists : List (List (List Call))) (phases : List (List Call)) (number : ℕ) → number ≡ first + length lists
    → callers_lines first (lists ++ phases ∷ []) ≡ callers_lines first lists ++ caller_line number ∷ phases_lines phases
callers_last first [] phases number e =
    let same : first ≡ number = omega arith in
    ap (λ (ls : List Line). caller_line first ∷ ls) (append-nil (phases_lines phases)) ∙ ap (λ (n : ℕ). caller_line n ∷ phases_lines phases) same
callers_last first (l ∷ lists) phases number e =
    ap (λ (ls : List Line). caller_line first ∷ (phases_lines l ++ ls)) (callers_last (first + 1) lists phases number (omega arith))
    ∙ ap (λ (ls : List Line). caller_line first ∷ ls) (sym (append_assoc (phases_lines l) (callers_lines (first + 1) lists) (caller_line number ∷ phases_lines phases)))

-- where each caller has one phase, nothing is cut
pub one_phase : (lists : List (List Call)) (cuts : List (List ℕ)) → AllAreCuts lists cuts → AllHavePhases 0 (cut_all lists cuts) → cut_all lists cuts ≡ map (λ calls. calls ∷ []) lists
one_phase [] cuts h k = refl
one_phase (l ∷ lists) [] h k = absurd h
one_phase (l ∷ lists) ([] ∷ cuts) h k = ap (λ (ls : List (List (List Call))). (l ∷ []) ∷ ls) (one_phase lists cuts h.1 k.1)
one_phase (l ∷ lists) ((c ∷ cs) ∷ cuts) h k = absurd (omega (arith, k.0, length-cut_from 0 (c ∷ cs) l))
