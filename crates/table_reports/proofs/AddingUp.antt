-- The printed size and sum are those of the printed replies.
use Rattle.std.proofs.Common.{◌≡◌, ℕ, ◌+◌, List, [], ◌∷◌, map, length, Some, slice_get, refl, sym, ap, ◌∙◌, subst, arith}
use Rattle.std.specs.List.{count_by, sum_by}
use Rattle.std.proofs.lemmas.List.{length-map}
use Rattle.std.proofs.lemmas.List.Sums.{sum_by-cons}
use Rattle.record_memory.specs.declared.books.Book.{Book}
use Rattle.record_rule.specs.Facts.{ShapeFacts}
use Rattle.record_rule.proofs.Lists.{map_at}
use Rattle.record_table.specs.Closing.{closed_books}
use Rattle.record_table.specs.declared.closing.Closed.{Closed}
use Rattle.report_text.specs.declared.report.Played.{Played}
use Rattle.report_text.specs.declared.report.Report.{Report}
use Rattle.key_sums.specs.declared.tallies.Tally.{Tally}
use Rattle.key_sums.specs.Balances.{AreTalliesOf, AreBalanced}
use Rattle.key_sums.specs.Tallies.{IsTallyOf, is_addition, is_removal, key_sum}
use Rattle.run_facts.proofs.AloneRuns.{at_got}
use Rattle.set_model.specs.declared.calls.Call.{Call}
use Rattle.table_reports.specs.History.{IsOneHistory, IsPrintedOf}
use Rattle.table_reports.specs.Reports.{TellsKeys, RepliesAddUp, printed_answers}

-- what the printed replies of a caller add up to
abbrev tally_of : Played → Tally
tally_of p = record {
  added = count_by is_addition (printed_answers p);
  removed = count_by is_removal (printed_answers p);
  added_sum = key_sum is_addition (printed_answers p);
  removed_sum = key_sum is_removal (printed_answers p);
}

-- a sum over what is made of a list's elements
sum_made : {A B : Type 0} (f : B → ℕ) (g : A → B) (xs : List A) → sum_by f (map g xs) ≡ sum_by (λ x. f (g x)) xs
sum_made f g [] = refl
sum_made f g (x ∷ xs) = sum_by-cons f (g x) (map g xs) ∙ ap (λ n. f (g x) + n) (sum_made f g xs) ∙ sym (sum_by-cons (λ y. f (g y)) x xs)

-- each of them is a tally of its caller's book
tallies_of : (closed : Closed) (callers : List Played) → length (closed_books closed) ≡ length callers
    → ((c : ℕ) (p : Played) (b : Book) → slice_get callers c ≡ Some p → slice_get (closed_books closed) c ≡ Some b → IsPrintedOf p b) → AreTalliesOf closed (map tally_of callers)
tallies_of closed callers all printed = record {
  many = length-map callers tally_of ∙ sym all;
  each = λ d t b at there. let told = map_at tally_of callers d t at in record {
    answers = printed_answers told.0;
    tally = subst (λ u. IsTallyOf u (printed_answers told.0)) told.2 (record { added = refl; removed = refl; added_sum = refl; removed_sum = refl });
    answered = printed d told.0 b (at_got callers d told.0 told.1) (at_got (closed_books closed) d b there);
  };
}

pub replies_add_up : {s : ShapeFacts} {lists : List (List (List Call))} (closed : Closed) (report : Report) → ((tallies : List Tally) → AreTalliesOf closed tallies → AreBalanced closed tallies)
    → TellsKeys closed report → IsOneHistory s lists report.callers closed → RepliesAddUp report
replies_add_up closed report adds keys history =
    let tallies = map tally_of report.callers in
    let b = adds tallies (tallies_of closed report.callers history.all_books history.printed) in
    record {
      size = omega (arith, keys.size_is, b.size, sum_made (λ (t : Tally). t.removed) tally_of report.callers, sum_made (λ (t : Tally). t.added) tally_of report.callers);
      sum = omega (arith, keys.sum_is, b.sum, sum_made (λ (t : Tally). t.removed_sum) tally_of report.callers, sum_made (λ (t : Tally). t.added_sum) tally_of report.callers);
    }
