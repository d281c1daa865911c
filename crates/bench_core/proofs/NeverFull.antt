-- No call is answered full where the records are enough: a plain set needs none.
use Rattle.std.proofs.Common.{◌≡◌, ◌≢◌, ℕ, suc, Bool, true, false, cond, eqb, Some, List, [], ◌∷◌, ◌++◌, slice_get, refl, sym, ap, ◌∙◌}
use Rattle.std.specs.List.{AllByRecursion}
use Rattle.std.proofs.lemmas.Bool.{false≢true}
use Rattle.std.proofs.lemmas.List.Elements.{recursion_from_All}
use Rattle.set_model.specs.declared.calls.Call.{Call}
use Rattle.set_model.specs.declared.calls.Reply.{Reply}
use Rattle.set_model.specs.declared.calls.Reply.TheVariants.{Yes, No, Full}
use Rattle.set_model.specs.declared.names.ReclaimerName.{ReclaimerName}
use Rattle.set_model.specs.declared.names.SetName.{SetName}
use Rattle.set_model.specs.Keys.{Keys, empty}
use Rattle.set_model.specs.Machine.{answer_of, keys_after, keys_after_all, reply_of_answer, replies_of}
use Rattle.command_words.specs.declared.command.PlayWords.{PlayWords}
use Rattle.paired_replies.specs.Pairs.{replies_to}
use Rattle.report_text.specs.declared.report.Played.{Played}
use Rattle.report_text.specs.declared.report.Report.{Report}
use Rattle.run_facts.specs.Unshared.{NoneIsFull}
use Rattle.workload_text.specs.Limits.{Plan}
use Rattle.bench_core.specs.declared.ending.Run.{Run}
use Rattle.bench_core.specs.Ending.{IsPlayed, any_full, has_full}
use Rattle.bench_core.proofs.PlayedPairs.{by_pair}
use Rattle.bench_core.specs.Plays.{IsPlainRun, Piece, order_of, told_to}
use Rattle.bench_core.specs.Tables.{HasEnough, all_insertions}

any_full-append : (xs ys : List Reply) → any_full xs ≡ false → any_full ys ≡ false → any_full (xs ++ ys) ≡ false
any_full-append [] ys first second = second
any_full-append (Yes ∷ xs) ys first second = any_full-append xs ys first second
any_full-append (No ∷ xs) ys first second = any_full-append xs ys first second
any_full-append (Full ∷ xs) ys first second = absurd (false≢true (sym first))

answer-not_full : (answer : Bool) (replies : List Reply) → any_full replies ≡ false → any_full (reply_of_answer answer ∷ replies) ≡ false
answer-not_full true replies rest = rest
answer-not_full false replies rest = rest

replies-not_full : (calls : List Call) (keys : Keys) → any_full (replies_of calls keys) ≡ false
replies-not_full [] keys = refl
replies-not_full (call ∷ calls) keys =
    let later = keys_after call keys in
    answer-not_full (answer_of call keys) (replies_of calls later) (replies-not_full calls later)

own-not_full : (own : Bool) (replies : List Reply) → any_full replies ≡ false → any_full (cond own replies []) ≡ false
own-not_full true replies is = is
own-not_full false replies is = refl

told-not_full : (caller : ℕ) (pieces : List Piece) (keys : Keys) → any_full (told_to caller pieces keys) ≡ false
told-not_full caller [] keys = refl
told-not_full caller (piece ∷ pieces) keys =
    let own = eqb piece.caller caller in
    let replies = replies_of piece.calls keys in
    let later = keys_after_all piece.calls keys in
    any_full-append (cond own replies []) (told_to caller pieces later) (own-not_full own replies (replies-not_full piece.calls keys)) (told-not_full caller pieces later)

callers-not_full : (callers : List Played) → ((caller : ℕ) (played : Played) → slice_get callers caller ≡ Some played → any_full played.replies ≡ false)
    → has_full callers ≡ false
callers-not_full [] each = refl
callers-not_full (played ∷ callers) each = rw (each 0 played refl) (callers-not_full callers (λ caller one there. each (suc caller) one there))

plain-not_full : (plan : Plan) (report : Report) → IsPlainRun plan report → has_full report.callers ≡ false
plain-not_full plan report played =
    callers-not_full report.callers (λ caller one there. ap any_full (played.replies caller one there) ∙ told-not_full caller (order_of plan.lists) empty)

-- replies of which none is full
own_told : (replies : List Reply) → AllByRecursion (λ reply. reply ≢ Full) replies → any_full replies ≡ false
own_told [] none = refl
own_told (Yes ∷ replies) none = own_told replies none.1
own_told (No ∷ replies) none = own_told replies none.1
own_told (Full ∷ replies) none = absurd (none.0 refl)

none_told : (callers : List Played) → AllByRecursion NoneIsFull (replies_to callers) → has_full callers ≡ false
none_told [] none = refl
none_told (played ∷ callers) none = rw (own_told played.replies (recursion_from_All (λ (reply : Reply). reply ≢ Full) played.replies none.0)) (none_told callers none.1)

-- no call is answered full where the records are enough
pub run-not_full : (set : SetName) (reclaimer : ReclaimerName) (chosen : PlayWords) (plan : Plan) (run : Run) → IsPlayed set reclaimer chosen plan run → HasEnough chosen (all_insertions plan.lists) → has_full run.report.callers ≡ false
run-not_full set reclaimer chosen plan run played enough = by_pair (has_full run.report.callers ≡ false) set reclaimer chosen plan run played
    (λ own none told. plain-not_full plan run.report told)
    (λ hash c m closed there told. none_told run.report.callers (recursion_from_All NoneIsFull (replies_to run.report.callers) (told.enough enough)))
