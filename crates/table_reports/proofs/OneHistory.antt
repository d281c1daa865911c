-- From a run on a table to the one history of which its report tells.
use Rattle.std.proofs.Common.{◌≡◌, ℕ, ◌<◌, List, [], ◌++◌, map, length, Some, slice_get, sym, ap, ◌∙◌, subst, arith}
use Rattle.std.proofs.lemmas.List.{append-nil, length-map}
use Rattle.std.proofs.lemmas.Option.{slice_get-get_or, slice_get-map, slice_get_within}
use Rattle.std.specs.Option.{option_map}
use Rattle.key_sums.specs.Balances.{answered_among}
use Rattle.paired_replies.specs.Pairs.{calls_of, replies_to}
use Rattle.record_memory.specs.declared.books.Book.{Book}
use Rattle.record_memory.specs.declared.books.Setup.{Setup}
use Rattle.record_rule.specs.Facts.{ShapeFacts, CoverFacts}
use Rattle.record_rule.specs.Histories.{HistoryFits}
use Rattle.record_rule.specs.Inputs.{answered_of, offer_of}
use Rattle.record_table.specs.Closing.{closed_books, closed_setup, history_of}
use Rattle.record_table.specs.declared.closing.Closed.{Closed}
use Rattle.report_text.specs.declared.report.Played.{Played}
use Rattle.run_facts.proofs.Answers.{book_has_replies}
use Rattle.run_facts.proofs.Phased.{book_is_phased}
use Rattle.run_facts.specs.Replies.{with_replies}
use Rattle.set_api.specs.declared.answer.Answer.{Answer}
use Rattle.set_model.specs.declared.calls.Call.{Call}
use Rattle.set_model.specs.declared.calls.Counts.{Counts}
use Rattle.set_runs.specs.Playing.{phases_of}
use Rattle.set_runs.specs.Runs.{IsSetRun}
use Rattle.workload_text.proofs.Held.{some_is}
use Rattle.workload_text.specs.Limits.{calls_of_all, joined}
use Rattle.table_reports.specs.History.{IsOneHistory}
use Rattle.table_reports.proofs.Pairs.{all_paired}

-- where nothing waits behind the history, it is the whole
whole : (s : ShapeFacts) (closed : Closed) → (waiting : List _) → waiting ≡ []
    → HistoryFits s (closed_setup closed).set (history_of closed ++ waiting) (map answered_of (closed_books closed)) (map offer_of (closed_books closed))
    → HistoryFits s (closed_setup closed).set (history_of closed) (map answered_of (closed_books closed)) (map offer_of (closed_books closed))
whole s closed waiting none fits =
    subst (λ h. HistoryFits s (closed_setup closed).set h (map answered_of (closed_books closed)) (map offer_of (closed_books closed)))
    (ap (λ w. history_of closed ++ w) none ∙ append-nil (history_of closed)) fits

-- the calls of a caller in the report are those of all its phases
own_calls : (lists : List (List (List Call))) (callers : List Played) → calls_of callers ≡ joined lists → (c : ℕ) (p : Played) → slice_get callers c ≡ Some p → calls_of_all (phases_of lists c) ≡ p.calls
own_calls lists callers same c p at =
    let there : slice_get (joined lists) c ≡ Some p.calls = ap (λ l. slice_get l c) (sym same) ∙ slice_get-map (λ (q : Played). q.calls) callers c ∙ ap (option_map (λ (q : Played). q.calls)) at in
    let within : c < length lists = omega (arith, slice_get_within callers c p at, ap length same, length-map callers (λ (q : Played). q.calls), length-map lists calls_of_all) in
    some_is (calls_of_all (phases_of lists c)) p.calls
    (sym (slice_get-map calls_of_all lists c ∙ ap (option_map calls_of_all) (slice_get-get_or lists c [] within)) ∙ there)

pub one_history : (s : ShapeFacts) (r : CoverFacts) (steps : Setup → Call → ℕ → Answer → Book → Book → Type 0) (budget : ℕ) (setup : Setup) (lists : List (List (List Call))) (callers : List Played) (counts : Counts) (closed : Closed)
    → (run : IsSetRun s r steps budget setup lists (replies_to callers) counts closed) → calls_of callers ≡ joined lists → run.fits.waiting ≡ [] → IsOneHistory s lists callers closed
one_history s r steps budget setup lists callers counts closed run same none =
    let told : (c : ℕ) (p : Played) → slice_get callers c ≡ Some p → slice_get (replies_to callers) c ≡ Some p.replies =
    λ c p at. slice_get-map (λ (q : Played). q.replies) callers c ∙ ap (option_map (λ (q : Played). q.replies)) at in
    record {
      legal = whole s closed run.fits.waiting none run.fits.whole.fits;
      replied = all_paired s r steps budget setup lists (replies_to callers) counts closed run ∙ ap (map length) (sym same);
      all_books = run.all_books ∙ sym run.all_replies ∙ length-map callers (λ (q : Played). q.replies);
      printed = λ c p b at there.
          sym (book_has_replies (run.each c p.replies b (told c p at) there) ∙ ap (λ calls. answered_among (with_replies calls p.replies)) (own_calls lists callers same c p at));
      bounds = run.bounds;
      phased = λ c p b at there. book_is_phased (run.each c p.replies b (told c p at) there);
      found = run.fits.found;
    }
