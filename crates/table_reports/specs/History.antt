-- What a report tells of the history of a closed table.
use Rattle.std.specs.Prelude.{◌≡◌, ℕ, List, map, length, Some, slice_get}
use Rattle.key_sums.specs.Balances.{answered_among, answers_in}
use Rattle.paired_replies.specs.Pairs.{calls_of, replies_to}
use Rattle.record_memory.specs.declared.books.Book.{Book}
use Rattle.record_memory.specs.declared.steps.Step.{Step}
use Rattle.record_rule.specs.Facts.{At, ShapeFacts}
use Rattle.record_rule.specs.Histories.{HistoryFits}
use Rattle.record_rule.specs.Inputs.{answered_of, offer_of}
use Rattle.record_rule.specs.Recorded.{StepFits}
use Rattle.record_table.specs.Closing.{closed_books, closed_setup, history_of}
use Rattle.record_table.specs.declared.closing.Closed.{Closed}
use Rattle.report_text.specs.declared.report.Played.{Played}
use Rattle.run_facts.specs.Phased.{ArePhased}
use Rattle.run_facts.specs.Replies.{with_replies}
use Rattle.set_model.specs.declared.calls.Call.{Call}
use Rattle.set_runs.specs.Playing.{phases_of}

-- the printed calls and replies of a caller, but those that were answered `full`, are the answered calls of its book, in order
abbrev pub IsPrintedOf : Played → Book → Type 0
IsPrintedOf p b = answered_among (with_replies p.calls p.replies) ≡ answers_in b.answered

-- The printed replies are those of the one history of the table that the callers closed
pub record IsOneHistory (s : ShapeFacts) (lists : List (List (List Call))) (callers : List Played) (closed : Closed) : Type 0 where
  -- it is legal, each answered call stands in it once, in its caller's order, and nothing else does
  pub legal : HistoryFits s (closed_setup closed).set (history_of closed) (map answered_of (closed_books closed)) (map offer_of (closed_books closed))
  -- and these calls are the printed ones, caller by caller, each of which has a reply
  pub replied : map length (replies_to callers) ≡ map length (calls_of callers)
  pub all_books : length (closed_books closed) ≡ length callers
  pub printed : (c : ℕ) (p : Played) (b : Book) → slice_get callers c ≡ Some p → slice_get (closed_books closed) c ≡ Some b → IsPrintedOf p b
  -- for each phase there is a place in the history behind all calls of earlier phases and before all others, whoever made them
  pub bounds : List ℕ
  pub phased : (c : ℕ) (p : Played) (b : Book) → slice_get callers c ≡ Some p → slice_get (closed_books closed) c ≡ Some b → ArePhased (phases_of lists c) p.replies bounds b
  -- each step that a caller made found and left what it may by its word and its kind, and one on a record that it held the generation that it had reached
  pub found : (c : ℕ) (b : Book) → At (closed_books closed) c b → (n : ℕ) (t : Step) → At b.steps n t → StepFits (closed_setup closed) c t
