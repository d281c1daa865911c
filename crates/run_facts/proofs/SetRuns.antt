-- What the replies of a run on a set that callers share say of each caller.
use Rattle.std.proofs.Common.{◌≡◌, ℕ, ◌<◌, List, length, Some, slice_get, sym, ◌∙◌, subst}
use Rattle.std.proofs.lemmas.Option.{slice_get_within}
use Rattle.set_model.specs.declared.calls.Call.{Call}
use Rattle.set_model.specs.declared.calls.Counts.{Counts}
use Rattle.set_model.specs.declared.calls.Reply.{Reply}
use Rattle.set_model.specs.declared.calls.Reply.TheVariants.{Full}
use Rattle.set_model.specs.Keys.{empty}
use Rattle.set_model.specs.Machine.{replies_of, IsLegalRun}
use Rattle.record_memory.specs.declared.books.Book.{Book}
use Rattle.record_memory.specs.declared.books.Setup.{Setup}
use Rattle.record_rule.specs.Facts.{ShapeFacts, CoverFacts}
use Rattle.record_rule.proofs.Lists.{at_below}
use Rattle.record_table.specs.Closing.{closed_books}
use Rattle.record_table.specs.declared.closing.Closed.{Closed}
use Rattle.set_api.specs.declared.answer.Answer.{Answer}
use Rattle.set_runs.specs.Runs.{IsSetRun}
use Rattle.run_facts.specs.Fullness.{AreCaused}
use Rattle.run_facts.specs.Unshared.{calls_by, ShareNoKey, NoneIsFull}
use Rattle.run_facts.proofs.AloneRuns.{got_at, at_got, unhelped_answered, legal_runs, alone_runs}
use Rattle.run_facts.proofs.Fullness.{some_full}

module _ {s : ShapeFacts} {c : CoverFacts} {steps : Setup → Call → ℕ → Answer → Book → Book → Type 0} {budget : ℕ} {setup : Setup} {lists : List (List (List Call))} {replies : List (List Reply)} {counts : Counts} {closed : Closed}
    (run : IsSetRun s c steps budget setup lists replies counts closed) where
  all_told : length replies ≡ length (closed_books closed)
  all_told = run.all_replies ∙ sym run.all_books

  -- where no key is shared, each caller's replies are legal on a set that it has to itself
  pub run_legal : ¬ s.helped → ShareNoKey lists → (i : ℕ) (own : List Reply) → slice_get replies i ≡ Some own → IsLegalRun (calls_by lists i) own empty
  run_legal unhelped unshared = legal_runs s c closed run.fits (unhelped_answered s c closed run.fits unhelped) lists replies all_told run.each unshared

  -- and where none of them is `Full`, they are the set machine's
  pub run_alone : ¬ s.helped → ShareNoKey lists → (i : ℕ) (own : List Reply) → slice_get replies i ≡ Some own → NoneIsFull own → own ≡ replies_of (calls_by lists i) empty
  run_alone unhelped unshared = alone_runs s c closed run.fits (unhelped_answered s c closed run.fits unhelped) lists replies all_told run.each unshared

  -- each reply `Full` is the answer to an insertion that found no record, in the play that leads to the book that the closed table has of its caller
  pub run_full : AreCaused (steps setup) budget setup c.first lists replies run.bounds (closed_books closed)
  run_full i n own here full =
      let b = at_below (closed_books closed) i (subst (λ m. i < m) all_told (slice_get_within replies i own here)) in
      let there = at_got (closed_books closed) i b.0 b.1 in
      let p = run.each i own b.0 here there in
      (b.0, there, p, some_full p n (got_at own n Full full))
