-- What each step of reading makes of what was read.
use Rattle.std.proofs.Common.{◌≡◌, ℕ, ◌+◌, ◌≤◌, inl, inr, List, [], ◌∷◌, ◌++◌, length, map, refl, sym, ap, subst, ◌∙◌, arith, length-append}
use Rattle.std.specs.Global.{Vec}
use Rattle.std.proofs.lemmas.List.{append-nil, map-append, length-map}
use Rattle.set_model.specs.declared.calls.Call.{Call}
use Rattle.text_lines.specs.Lines.{line}
use Rattle.workload_text.specs.declared.seen.Seen.{Seen}
use Rattle.workload_text.specs.declared.progress.Progress.{Progress}
use Rattle.workload_text.specs.Limits.{Plan, IsWorkload, lists_of, plan_of, phased_plan, phase_lines, AllHavePhases}
use Rattle.workload_text.specs.Cuts.{cut_at, AreCuts, cut_all, AllAreCuts, cuts_of}
use Rattle.workload_text.specs.Text.{Line, version_line, callers_line, caller_line, call_line, phase_line, end_line, spelled, callers_lines, workload_lines, text_of, IsTextOf}
use Rattle.workload_text.specs.Following.{in_caller, behind_end, MayFollow}
use Rattle.workload_text.specs.Progress.{AreRead, opened, opened_lines, IsProgress, IsEnded}
use Rattle.workload_text.proofs.Sound.{IsSeenSound, sound_at}
use Rattle.workload_text.proofs.Parsed.{AllHaveSome}
use Rattle.workload_text.proofs.Admitted.{with_calls, with_phase_line, next_seen, calls_place, calls_follow, follows_workload}
use Rattle.workload_text.proofs.CutLemmas.{cuts_more, cuts_push, length-cut_from, length-cut_all, cut_all-push, AllAreCuts-push, cut_all_some, some-push, one_phase}
use Rattle.workload_text.proofs.Reached.{Reaches, reaches_more, reaches_one, spelled_calls, further_calls, further_phase, further_caller, behind_head}

pub reached : (bytes rest : List ℕ) (p : Progress) → IsProgress bytes p rest → Reaches bytes (opened_lines p) (in_caller p.seen) rest
reached bytes rest p h = record { follow = h.follow; at = h.place; same = h.same }

pub sound_progress : (bytes rest : List ℕ) (p : Progress) → IsProgress bytes p rest → IsSeenSound p.seen p.lines
sound_progress bytes rest p h = subst (IsSeenSound p.seen) (sym h.count) (sound_at (opened_lines p) p.seen h.follow h.place)

length-more : (old new more : List Line) → new ≡ old ++ more → length new ≡ length old + length more
length-more old new more e = ap length e ∙ length-append old more

-- ---- calls

pub calls_progress : (bytes rest behind : List ℕ) (p q : Progress) (count : ℕ) → IsProgress bytes p rest → AreRead p.calls.items q.calls.items rest count behind → p.seen.calls + count ≤ 1000000
    → q.seen ≡ with_calls p.seen (p.seen.calls + count) → q.lines ≡ p.lines + count → q.lists ≡ p.lists → q.cuts ≡ p.cuts → q.open_cuts ≡ p.open_cuts → IsProgress bytes q behind
calls_progress bytes rest behind p q count h r few seen lines lists cuts open_cuts =
    let done = cut_all (lists_of p.lists.items) (cuts_of p.cuts.items) in
    let all = further_calls done p.open_cuts.items p.calls.items h.open_cut r.read in
    let items = r.items in
    let there : callers_lines 0 (opened q) ≡ callers_lines 0 (done ++ cut_at p.open_cuts.items (p.calls.items ++ r.read) ∷ []) = cc in
    let version : q.seen.version ≡ p.seen.version = ap (λ (s : Seen). s.version) seen in
    let callers : q.seen.callers ≡ p.seen.callers = ap (λ (s : Seen). s.callers) seen in
    let caller : q.seen.caller ≡ p.seen.caller = ap (λ (s : Seen). s.caller) seen in
    let e = ap (λ (v : ℕ). version_line v ∷ callers_line q.seen.callers ∷ callers_lines 0 (opened q)) version ∙ ap (λ (n : ℕ). version_line p.seen.version ∷ callers_line n ∷ callers_lines 0 (opened q)) callers
    ∙ behind_head (version_line p.seen.version) (callers_line p.seen.callers) (callers_lines 0 (opened q)) (callers_lines 0 (opened p)) (map call_line r.read) (there ∙ all) in
    let enough : p.seen.calls + length r.read ≤ 1000000 = omega (arith, r.length_is) in
    let at = calls_place p.seen r.read ∙ ap (λ (n : ℕ). in_caller (with_calls p.seen (p.seen.calls + n))) r.length_is ∙ ap in_caller (sym seen) in
    let now = reaches_more bytes rest behind (opened_lines p) (opened_lines q) (map call_line r.read) (in_caller p.seen) (in_caller q.seen) (reached bytes rest p h) e (r.text ∙ ap (λ (t : List ℕ). t ++ behind) (spelled_calls r.read)) (calls_follow p.seen r.read r.keys enough) at in
    record {
      follow = now.follow;
      place = now.at;
      same = now.same;
      count = omega (arith, lines, h.count, length-more (opened_lines p) (opened_lines q) (map call_line r.read) e, length-map r.read call_line, r.length_is);
      cut = let k : AllAreCuts (lists_of q.lists.items) (cuts_of q.cuts.items) = subst (λ (v : Vec (Vec Call)). AllAreCuts (lists_of v.items) (cuts_of q.cuts.items)) (sym lists) (subst (λ (v : Vec (Vec ℕ)). AllAreCuts (lists_of p.lists.items) (cuts_of v.items)) (sym cuts) h.cut) in k;
      open_cut = subst (λ (v : Vec ℕ). AreCuts 0 v.items (length q.calls.items)) (sym open_cuts) (cuts_more 0 p.open_cuts.items (length p.calls.items) (length q.calls.items) (omega (arith, ap length r.items, length-append p.calls.items r.read)) h.open_cut);
      callers = ap (λ (v : Vec (Vec Call)). length v.items) lists ∙ h.callers ∙ sym caller;
      calls = omega (arith, h.calls, ap length r.items, length-append p.calls.items r.read, r.length_is, ap (λ (s : Seen). s.calls) seen);
    }

-- ---- a phase

pub phase_progress : (bytes rest behind : List ℕ) (p q : Progress) → IsProgress bytes p rest → MayFollow (in_caller p.seen) phase_line → rest ≡ line (spelled phase_line) ++ behind
    → q.open_cuts.items ≡ p.open_cuts.items ++ length p.calls.items ∷ [] → q.lists ≡ p.lists → q.cuts ≡ p.cuts → q.calls ≡ p.calls → q.lines ≡ p.lines + 1 → q.seen ≡ with_phase_line p.seen → IsProgress bytes q behind
phase_progress bytes rest behind p q h m text open_cuts lists cuts calls lines seen =
    let done = cut_all (lists_of p.lists.items) (cuts_of p.cuts.items) in
    let all = further_phase done p.open_cuts.items p.calls.items h.open_cut in
    let there : callers_lines 0 (opened q) ≡ callers_lines 0 (done ++ cut_at (p.open_cuts.items ++ length p.calls.items ∷ []) p.calls.items ∷ []) = cc in
    let version : q.seen.version ≡ p.seen.version = ap (λ (s : Seen). s.version) seen in
    let callers : q.seen.callers ≡ p.seen.callers = ap (λ (s : Seen). s.callers) seen in
    let caller : q.seen.caller ≡ p.seen.caller = ap (λ (s : Seen). s.caller) seen in
    let e = ap (λ (v : ℕ). version_line v ∷ callers_line q.seen.callers ∷ callers_lines 0 (opened q)) version ∙ ap (λ (n : ℕ). version_line p.seen.version ∷ callers_line n ∷ callers_lines 0 (opened q)) callers
    ∙ behind_head (version_line p.seen.version) (callers_line p.seen.callers) (callers_lines 0 (opened q)) (callers_lines 0 (opened p)) (phase_line ∷ []) (there ∙ all) in
    let now = reaches_one bytes rest behind (opened_lines p) (opened_lines q) phase_line (in_caller p.seen) (reached bytes rest p h) e text m in
    record {
      follow = now.follow;
      place = now.at ∙ ap in_caller (sym seen);
      same = now.same;
      count = omega (arith, lines, h.count, length-more (opened_lines p) (opened_lines q) (phase_line ∷ []) e);
      cut = let k : AllAreCuts (lists_of q.lists.items) (cuts_of q.cuts.items) = subst (λ (v : Vec (Vec Call)). AllAreCuts (lists_of v.items) (cuts_of q.cuts.items)) (sym lists) (subst (λ (v : Vec (Vec ℕ)). AllAreCuts (lists_of p.lists.items) (cuts_of v.items)) (sym cuts) h.cut) in k;
      open_cut = subst (λ (cs : List ℕ). AreCuts 0 cs (length q.calls.items)) (sym open_cuts) (subst (λ (v : Vec Call). AreCuts 0 (p.open_cuts.items ++ length p.calls.items ∷ []) (length v.items)) (sym calls) (cuts_push 0 p.open_cuts.items (length p.calls.items) h.open_cut));
      callers = ap (λ (v : Vec (Vec Call)). length v.items) lists ∙ h.callers ∙ sym caller;
      calls = omega (arith, h.calls, ap (λ (v : Vec Call). length v.items) calls, ap (λ (s : Seen). s.calls) seen);
    }

-- ---- a caller

closed_opened : (p : Progress) (lists : List (Vec Call)) (cuts : List (Vec ℕ)) → AllAreCuts (lists_of p.lists.items) (cuts_of p.cuts.items) → lists ≡ p.lists.items ++ p.calls ∷ [] → cuts ≡ p.cuts.items ++ p.open_cuts ∷ []
    → cut_all (lists_of lists) (cuts_of cuts) ≡ opened p
closed_opened p lists cuts h e f =
    let first : lists_of lists ≡ lists_of p.lists.items ++ p.calls.items ∷ [] = ap lists_of e ∙ map-append (λ (v : Vec Call). v.items) p.lists.items (p.calls ∷ []) in
    let second : cuts_of cuts ≡ cuts_of p.cuts.items ++ p.open_cuts.items ∷ [] = ap cuts_of f ∙ map-append (λ (v : Vec ℕ). v.items) p.cuts.items (p.open_cuts ∷ []) in
    ap (λ (ls : List (List Call)). cut_all ls (cuts_of cuts)) first ∙ ap (cut_all (lists_of p.lists.items ++ p.calls.items ∷ [])) second
    ∙ cut_all-push (lists_of p.lists.items) (cuts_of p.cuts.items) p.calls.items p.open_cuts.items h

pub closed_cuts : (p : Progress) (lists : List (Vec Call)) (cuts : List (Vec ℕ)) → AllAreCuts (lists_of p.lists.items) (cuts_of p.cuts.items) → AreCuts 0 p.open_cuts.items (length p.calls.items) → lists ≡ p.lists.items ++ p.calls ∷ [] → cuts ≡ p.cuts.items ++ p.open_cuts ∷ []
    → AllAreCuts (lists_of lists) (cuts_of cuts)
closed_cuts p lists cuts h k e f =
    let first : lists_of lists ≡ lists_of p.lists.items ++ p.calls.items ∷ [] = ap lists_of e ∙ map-append (λ (v : Vec Call). v.items) p.lists.items (p.calls ∷ []) in
    let second : cuts_of cuts ≡ cuts_of p.cuts.items ++ p.open_cuts.items ∷ [] = ap cuts_of f ∙ map-append (λ (v : Vec ℕ). v.items) p.cuts.items (p.open_cuts ∷ []) in
    let both = AllAreCuts-push (lists_of p.lists.items) (cuts_of p.cuts.items) p.calls.items p.open_cuts.items h k in
    subst (λ (ls : List (List Call)). AllAreCuts ls (cuts_of cuts)) (sym first) (subst (AllAreCuts (lists_of p.lists.items ++ p.calls.items ∷ [])) (sym second) both)

length-opened : (bytes rest : List ℕ) (p : Progress) → IsProgress bytes p rest → length (opened p) ≡ p.seen.caller + 1
length-opened bytes rest p h =
    let done = cut_all (lists_of p.lists.items) (cuts_of p.cuts.items) in
    omega (arith, length-append done (cut_at p.open_cuts.items p.calls.items ∷ []), length-cut_all (lists_of p.lists.items) (cuts_of p.cuts.items) h.cut, length-map p.lists.items (λ (v : Vec Call). v.items), h.callers)

pub caller_progress : (bytes rest behind : List ℕ) (p q : Progress) → IsProgress bytes p rest → MayFollow (in_caller p.seen) (caller_line (p.seen.caller + 1)) → rest ≡ line (spelled (caller_line (p.seen.caller + 1))) ++ behind
    → q.lists.items ≡ p.lists.items ++ p.calls ∷ [] → q.cuts.items ≡ p.cuts.items ++ p.open_cuts ∷ [] → q.calls.items ≡ [] → q.open_cuts.items ≡ [] → q.lines ≡ p.lines + 1 → q.seen ≡ next_seen p.seen (p.seen.caller + 1) → IsProgress bytes q behind
caller_progress bytes rest behind p q h m text lists cuts calls open_cuts lines seen =
    let closed = closed_opened p q.lists.items q.cuts.items h.cut lists cuts in
    let all = further_caller (opened p) (p.seen.caller + 1) (length-opened bytes rest p h) in
    let there : callers_lines 0 (opened q) ≡ callers_lines 0 (opened p ++ ([] ∷ []) ∷ []) =
    ap (λ (ls : List (List (List Call))). callers_lines 0 (ls ++ cut_at q.open_cuts.items q.calls.items ∷ [])) closed
    ∙ ap (λ (cs : List ℕ). callers_lines 0 (opened p ++ cut_at cs q.calls.items ∷ [])) open_cuts ∙ ap (λ (cs : List Call). callers_lines 0 (opened p ++ cut_at [] cs ∷ [])) calls in
    let version : q.seen.version ≡ p.seen.version = ap (λ (s : Seen). s.version) seen in
    let callers : q.seen.callers ≡ p.seen.callers = ap (λ (s : Seen). s.callers) seen in
    let caller : q.seen.caller ≡ p.seen.caller + 1 = ap (λ (s : Seen). s.caller) seen in
    let e = ap (λ (v : ℕ). version_line v ∷ callers_line q.seen.callers ∷ callers_lines 0 (opened q)) version ∙ ap (λ (n : ℕ). version_line p.seen.version ∷ callers_line n ∷ callers_lines 0 (opened q)) callers
    ∙ behind_head (version_line p.seen.version) (callers_line p.seen.callers) (callers_lines 0 (opened q)) (callers_lines 0 (opened p)) (caller_line (p.seen.caller + 1) ∷ []) (there ∙ all) in
    let now = reaches_one bytes rest behind (opened_lines p) (opened_lines q) (caller_line (p.seen.caller + 1)) (in_caller p.seen) (reached bytes rest p h) e text m in
    let no_cuts : AreCuts 0 [] (length q.calls.items) = omega arith in
    record {
      follow = now.follow;
      place = now.at ∙ ap in_caller (sym seen);
      same = now.same;
      count = omega (arith, lines, h.count, length-more (opened_lines p) (opened_lines q) (caller_line (p.seen.caller + 1) ∷ []) e);
      cut = closed_cuts p q.lists.items q.cuts.items h.cut h.open_cut lists cuts;
      open_cut = subst (λ (cs : List ℕ). AreCuts 0 cs (length q.calls.items)) (sym open_cuts) no_cuts;
      calls = omega (arith, ap length calls);
      callers = ap length lists ∙ length-append p.lists.items (p.calls ∷ []) ∙ omega (arith, h.callers, caller);
    }

-- ---- the end

abbrev pub opened_plan : Progress → Plan
opened_plan p = record { version = p.seen.version; lists = opened p }

pub ended_lines : (bytes rest : List ℕ) (p : Progress) → IsEnded bytes p rest → Reaches bytes (workload_lines (opened_plan p)) behind_end rest
ended_lines bytes rest p h =
    let before = line (spelled end_line) ++ rest in
    let count : length (opened p) ≡ p.seen.callers = omega (arith, length-opened bytes before p h.progress_is, h.may.0) in
    let e = ap (λ (n : ℕ). version_line p.seen.version ∷ callers_line n ∷ (callers_lines 0 (opened p) ++ end_line ∷ [])) count in
    reaches_one bytes before rest (opened_lines p) (workload_lines (opened_plan p)) end_line (in_caller p.seen) (reached bytes before p h.progress_is) e refl h.may

-- and there are as many lines as were read, and one more
pub ended_length : (bytes rest : List ℕ) (p : Progress) → IsEnded bytes p rest → length (workload_lines (opened_plan p)) ≡ p.lines + 1
ended_length bytes rest p h = omega (arith, length-append (callers_lines 0 (opened p)) (end_line ∷ []), h.progress_is.count)

pub ended_workload : (bytes rest : List ℕ) (p : Progress) → IsEnded bytes p rest → IsWorkload (opened_plan p)
ended_workload bytes rest p h =
    let ends = ended_lines bytes rest p h in
    let done = cut_all (lists_of p.lists.items) (cuts_of p.cuts.items) in
    let some : AllHaveSome (opened p) = some-push done (cut_at p.open_cuts.items p.calls.items) (cut_all_some (lists_of p.lists.items) (cuts_of p.cuts.items)) (omega (arith, length-cut_from 0 p.open_cuts.items p.calls.items)) in
    follows_workload (opened_plan p) (omega (arith, length-opened bytes (line (spelled end_line) ++ rest) p h.progress_is)) some (ends.follow, ends.at)

pub ended_text : (bytes : List ℕ) (p : Progress) → IsEnded bytes p [] → IsTextOf bytes (opened_plan p)
ended_text bytes p h = (ended_workload bytes [] p h, (ended_lines bytes [] p h).same ∙ append-nil (text_of (opened_plan p)))

no_phase_lines : (plan : Plan) → IsWorkload plan → plan.version ≡ 1 → phase_lines plan.lists ≡ 0
no_phase_lines plan w e = elim w.lawful_version [ inl h ↦ h.1 | inr h ↦ absurd (omega arith) ]

-- what is kept of it, in version 1 without the cuts
pub kept_whole : (bytes rest : List ℕ) (p : Progress) (lists : List (Vec Call)) → IsEnded bytes p rest → p.seen.version ≡ 1 → lists ≡ p.lists.items ++ p.calls ∷ [] → plan_of (lists_of lists) ≡ opened_plan p
kept_whole bytes rest p lists h version e =
    let w = ended_workload bytes rest p h in
    let whole = closed_opened p lists (p.cuts.items ++ p.open_cuts ∷ []) h.progress_is.cut e refl in
    let cut = closed_cuts p lists (p.cuts.items ++ p.open_cuts ∷ []) h.progress_is.cut h.progress_is.open_cut e refl in
    let phases : AllHavePhases 0 (opened p) = subst (λ (n : ℕ). AllHavePhases n (opened p)) (no_phase_lines (opened_plan p) w version) w.same_phases in
    let one = one_phase (lists_of lists) (cuts_of (p.cuts.items ++ p.open_cuts ∷ [])) cut (subst (AllHavePhases 0) (sym whole) phases) in
    ap (λ (ls : List (List (List Call))). record { version = 1; lists = ls }) (sym one ∙ whole) ∙ ap (λ (v : ℕ). record { version = v; lists = opened p }) (sym version)

pub kept_cut : (bytes rest : List ℕ) (p : Progress) (lists : List (Vec Call)) (cuts : List (Vec ℕ)) → IsEnded bytes p rest → p.seen.version ≡ 2 → lists ≡ p.lists.items ++ p.calls ∷ [] → cuts ≡ p.cuts.items ++ p.open_cuts ∷ []
    → phased_plan (cut_all (lists_of lists) (cuts_of cuts)) ≡ opened_plan p
kept_cut bytes rest p lists cuts h version e f =
    ap phased_plan (closed_opened p lists cuts h.progress_is.cut e f) ∙ ap (λ (v : ℕ). record { version = v; lists = opened p }) (sym version)

pub version_two : (bytes rest : List ℕ) (p : Progress) → IsProgress bytes p rest → (p.seen.version ≡ 1 → ⊥) → p.seen.version ≡ 2
version_two bytes rest p h ne = elim (sound_progress bytes rest p h).version [ inl e ↦ absurd (ne e) | inr e ↦ e ]
