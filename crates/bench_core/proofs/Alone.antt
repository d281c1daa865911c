-- Where callers share no key, each is told what it would be told alone.
use Rattle.std.proofs.Common.{◌≡◌, ◌≢◌, ℕ, zero, suc, ◌+◌, ◌%◌, ◌<◌, ◌≤◌, inl, inr, Bool, true, false, ◌||◌, Some, List, [], ◌∷◌, ◌++◌, map, slice_get, slice_index_or, refl, sym, ap, ◌∙◌, subst, ne_eqb, append-nil, add-one, arith}
use Rattle.std.proofs.lemmas.Bool.{true≢false}
use Rattle.std.proofs.lemmas.Bool.Decides.{eqb_tells}
use Rattle.std.specs.List.{AllByRecursion}
use Rattle.set_model.specs.declared.calls.Call.{Call}
use Rattle.set_model.specs.Keys.{Keys, contains, empty}
use Rattle.set_model.specs.Machine.{key_of, keys_after, keys_after_all, reply_of, reply_of_answer, replies_of}
use Rattle.workload_gen.specs.declared.plan.GenPlan.{GenPlan}
use Rattle.workload_gen.specs.Generated.{caller_calls, callers_from, generated}
use Rattle.workload_gen.proofs.Lawful.{no_phase_lines}
use Rattle.workload_gen.proofs.OwnKeys.{IsOwn, own_calls}
use Rattle.std.specs.Option.{option_map}
use Rattle.std.proofs.lemmas.Option.{slice_get-map}
use Rattle.workload_text.proofs.Held.{none_is, some_is}
use Rattle.workload_text.specs.Limits.{Plan, joined, plan_of}
use Rattle.command_words.specs.declared.command.PlayWords.{PlayWords}
use Rattle.command_words.specs.declared.command.TrialWords.{TrialWords}
use Rattle.paired_replies.specs.Pairs.{calls_of, replies_to}
use Rattle.record_pieces.specs.Manners.{Manner}
use Rattle.record_rule.specs.Facts.{CoverFacts}
use Rattle.record_table.specs.declared.closing.Closed.{Closed}
use Rattle.report_text.specs.declared.report.Played.{Played}
use Rattle.report_text.specs.declared.report.Report.{Report}
use Rattle.run_facts.proofs.Alone.{Agree, agree_after, left_alone, same_answer}
use Rattle.bench_core.specs.declared.ending.Run.{Run}
use Rattle.run_facts.proofs.GeneratedRuns.{calls_joined, generated_unshared}
use Rattle.run_facts.proofs.SetRuns.{run_alone}
use Rattle.run_facts.specs.Unshared.{NoneIsFull}
use Rattle.bench_core.specs.Ending.{IsMade, IsRun, any_full, has_full}
use Rattle.bench_core.specs.Settings.{played_as}
use Rattle.bench_core.specs.Tables.{IsHashRun}
use Rattle.bench_core.proofs.NeverFull.{run-not_full}
use Rattle.bench_core.proofs.PlayedPairs.{by_pair}
use Rattle.bench_core.proofs.NoneFull.{none_is_full}
use Rattle.bench_core.specs.Plays.{AreAlone, IsPlainRun, pieces_in, order_of, told_to}

-- the keys of all these calls are such
abbrev Name : (ℕ → Type 0) → List Call → Type 0
Name P calls = AllByRecursion (λ call. P (key_of call)) calls

-- calls on such keys are told the same
same_replies : (P : ℕ → Type 0) (calls : List Call) (s t : Keys) → Name P calls → Agree P s t → replies_of calls s ≡ replies_of calls t
same_replies P [] s t names same = refl
same_replies P (call ∷ calls) s t names same =
    ap (λ answer. reply_of_answer answer ∷ replies_of calls (keys_after call s)) (same_answer call s t (same (key_of call) names.0))
    ∙ ap (λ replies. reply_of call t ∷ replies) (same_replies P calls (keys_after call s) (keys_after call t) names.1 (agree_after P call s t same))

-- calls on other keys leave a key as it was
untouched : (key : ℕ) (calls : List Call) (keys : Keys) → Name (λ other. key ≢ other) calls → contains (keys_after_all calls keys) key ≡ contains keys key
untouched key [] keys names = refl
untouched key (call ∷ calls) keys names = untouched key calls (keys_after call keys) names.1 ∙ left_alone key call keys names.0

-- each caller's calls in one phase
abbrev one_phase : List (List Call) → List (List (List Call))
one_phase lists = map (λ calls. calls ∷ []) lists

-- callers that come later are told elsewhere
told_before : (lists : List (List (List Call))) (first caller : ℕ) (keys : Keys) → caller < first → told_to caller (pieces_in 0 lists first) keys ≡ []
told_before [] first caller keys before = refl
told_before (phases ∷ lists) first caller keys before =
    let others : first ≢ caller = omega (arith, before) in
    let more : caller < suc first = omega (arith, before) in
    rw (ne_eqb first caller others) (told_before lists (suc first) caller (keys_after_all (slice_index_or phases 0 []) keys) more)

module _ (plan : GenPlan) (unshared : plan.shared ≡ false) where
  others : (caller other key : ℕ) (calls : List Call) → other ≢ caller → IsOwn plan caller key → Name (IsOwn plan other) calls → Name (λ named. key ≢ named) calls
  others caller other key [] apart own names = tt
  others caller other key (call ∷ calls) apart own names =
      (λ same. apart (sym names.0 ∙ ap (λ named. named % plan.callers) (sym same) ∙ own), others caller other key calls apart own names.1)

  told_from : (first count caller : ℕ) (keys : Keys) → first ≤ caller → caller < first + count → first + count ≤ plan.callers → Agree (IsOwn plan caller) keys empty
      → told_to caller (pieces_in 0 (one_phase (callers_from plan first count)) first) keys ≡ replies_of (caller_calls plan caller) empty
  told_from first zero caller keys from to most free = absurd (omega (arith, from, to))
  told_from first (suc count) caller keys from to most free =
      let calls = caller_calls plan first in
      let later = keys_after_all calls keys in
      let rest = one_phase (callers_from plan (first + 1) count) in
      elim (eqb_tells first caller) [
        | inl here ↦
            let none = told_before rest (suc first) caller later (omega (arith, here.1)) in
            rw (here.0, none, append-nil) (
            same_replies (IsOwn plan caller) calls keys empty (subst (λ n. Name (IsOwn plan n) calls) here.1 (own_calls plan unshared first (omega (arith, most)))) free
            ∙ ap (λ n. replies_of (caller_calls plan n) empty) here.1
            )
        | inr there ↦
            let named = own_calls plan unshared first (omega (arith, most)) in
            let still : Agree (IsOwn plan caller) later empty = λ key own. untouched key calls keys (others caller first key calls there.1 own named) ∙ free key own in
            let next = told_from (first + 1) count caller later (omega (arith, from, there.1)) (omega (arith, to)) (omega (arith, most)) still in
            rw there.0 (subst (λ n. told_to caller (pieces_in 0 rest n) later ≡ replies_of (caller_calls plan caller) empty) (add-one first) next)
      ]

  pub told_alone : (caller : ℕ) → caller < plan.callers → told_to caller (order_of (one_phase (generated plan))) empty ≡ replies_of (caller_calls plan caller) empty
  told_alone caller within =
      let lists = one_phase (generated plan) in
      rw (no_phase_lines (generated plan), append-nil) (told_from 0 plan.callers caller empty (omega arith) (omega (arith, within)) (omega arith) (λ key own. refl))

called_at : (plan : GenPlan) (first count place caller : ℕ) (calls : List Call) → caller ≡ first + place → slice_get (joined (one_phase (callers_from plan first count))) place ≡ Some calls
    → (calls ≡ caller_calls plan caller) × (place < count)
called_at plan first zero place caller calls at is = absurd (none_is calls is)
called_at plan first (suc count) zero caller calls at is =
    (sym (some_is (caller_calls plan first ++ []) calls is) ∙ append-nil (caller_calls plan first) ∙ ap (caller_calls plan) (omega (arith, at)), omega arith)
called_at plan first (suc count) (suc place) caller calls at is =
    let next = called_at plan (first + 1) count place caller calls (omega (arith, at)) is in
    (next.0, omega (arith, next.1))

pub plain_alone : (sizes : GenPlan) → sizes.shared ≡ false → (plan : Plan) → plan ≡ plan_of (generated sizes) → (report : Report) → IsPlainRun plan report → AreAlone report.callers
plain_alone sizes unshared plan is report played = λ caller one there.
    let lists = one_phase (generated sizes) in
    let calls : slice_get (joined lists) caller ≡ Some one.calls = ap (λ all. slice_get all caller) (sym (played.calls ∙ ap (λ (p : Plan). joined p.lists) is))
    ∙ slice_get-map (λ (p : Played). p.calls) report.callers caller ∙ ap (option_map (λ (p : Played). p.calls)) there in
    let own = called_at sizes 0 sizes.callers caller caller one.calls (omega arith) calls in
    played.replies caller one there ∙ ap (λ (p : Plan). told_to caller (order_of p.lists) empty) is ∙ told_alone sizes unshared caller own.1 ∙ ap (λ calls. replies_of calls empty) (sym own.0)

left_false : (a b : Bool) → (a || b) ≡ false → a ≡ false
left_false true b is = is
left_false false b is = refl

right_false : (a b : Bool) → (a || b) ≡ false → b ≡ false
right_false true b is = absurd (true≢false is)
right_false false b is = is

-- where no reply is full, none of a caller's is
none_full : (callers : List Played) → has_full callers ≡ false → (caller : ℕ) (one : Played) → slice_get callers caller ≡ Some one → NoneIsFull one.replies
none_full [] no_full caller one there = absurd (none_is one there)
none_full (played ∷ callers) no_full zero one there = none_is_full one.replies (ap (λ (p : Played). any_full p.replies) (sym (some_is played one there)) ∙ left_false (any_full played.replies) (has_full callers) no_full)
none_full (played ∷ callers) no_full (suc caller) one there = none_full callers (right_false (any_full played.replies) (has_full callers) no_full) caller one there

-- a trial on a hash table
hash_alone : (sizes : GenPlan) → sizes.shared ≡ false → (plan : Plan) → plan ≡ plan_of (generated sizes) → (report : Report) (closed : Closed) (cover : CoverFacts) (m : Manner) (chosen : PlayWords)
    → IsHashRun cover m chosen plan.lists report closed → calls_of report.callers ≡ joined plan.lists → has_full report.callers ≡ false → AreAlone report.callers
hash_alone sizes unshared plan is report closed cover m chosen run calls no_full = λ caller one there.
    let own : slice_get (replies_to report.callers) caller ≡ Some one.replies = slice_get-map (λ (p : Played). p.replies) report.callers caller ∙ ap (option_map (λ (p : Played). p.replies)) there in
    let called : slice_get (joined plan.lists) caller ≡ Some one.calls =
    ap (λ all. slice_get all caller) (sym calls) ∙ slice_get-map (λ (p : Played). p.calls) report.callers caller ∙ ap (option_map (λ (p : Played). p.calls)) there in
    run_alone run.played (λ helped. helped) (generated_unshared sizes unshared plan is) caller one.replies own (none_full report.callers no_full caller one there)
    ∙ ap (λ calls. replies_of calls empty) (calls_joined plan.lists caller one.calls called)

-- a trial on a set that is played
pub trial_alone : (chosen : TrialWords) → chosen.workload.shared ≡ false → (plan : Plan) → IsMade chosen.workload plan → (run : Run) → IsRun (played_as chosen) plan run → AreAlone run.report.callers
trial_alone chosen unshared plan made run r =
    let no_full = run-not_full chosen.set chosen.reclaimer (played_as chosen) plan run r.played tt in
    let own : made.0.shared ≡ false = made.1.shared ∙ unshared in
    by_pair (AreAlone run.report.callers) chosen.set chosen.reclaimer (played_as chosen) plan run r.played
    (λ plain none told. plain_alone made.0 own plan made.2 run.report told)
    (λ hash c m closed there told. hash_alone made.0 own plan made.2 run.report closed c m (played_as chosen) told r.calls no_full)
