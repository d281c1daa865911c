-- What the tallies of all callers of a closed table add up to.
use Rattle.std.specs.Prelude.{◌≡◌, ℕ, ◌+◌, List, [], ◌∷◌, map, length, sum_by}
use Rattle.set_model.specs.declared.calls.Call.{Call}
use Rattle.set_model.specs.declared.calls.Reply.{Reply}
use Rattle.set_model.specs.declared.calls.Reply.TheVariants.{Full}
use Rattle.set_model.specs.Keys.{size_of, sum_of}
use Rattle.set_model.specs.Histories.{keys_of}
use Rattle.set_model.specs.Machine.{reply_of_answer}
use Rattle.record_memory.specs.declared.books.Answered.{Answered}
use Rattle.record_memory.specs.declared.books.Book.{Book}
use Rattle.record_rule.specs.Facts.{At}
use Rattle.record_table.specs.declared.closing.Closed.{Closed}
use Rattle.record_table.specs.Closing.{closed_books, history_of}
use Rattle.key_sums.specs.declared.tallies.Tally.{Tally}
use Rattle.key_sums.specs.Tallies.{IsTallyOf}

-- the calls that were answered, and those that found no record left out
abbrev pub answered_among : List (Call × Reply) → List (Call × Reply)
answered_among [] = []
answered_among ((call, Full) ∷ answers) = answered_among answers
answered_among (answer ∷ answers) = answer ∷ answered_among answers

-- the answered calls of a caller's book, with their replies
abbrev pub answers_in : List Answered → List (Call × Reply)
answers_in answered = map (λ (a : Answered). (a.call, reply_of_answer a.reply)) answered

-- it is a tally of calls and replies whose answered calls are those of this book
pub record IsTallyOfBook (t : Tally) (b : Book) : Type 0 where
  pub answers : List (Call × Reply)
  pub tally : IsTallyOf t answers
  pub answered : answered_among answers ≡ answers_in b.answered

-- a tally for each caller of the table, in order of number
pub record AreTalliesOf (c : Closed) (tallies : List Tally) : Type 0 where
  pub many : length tallies ≡ length (closed_books c)
  pub each : (d : ℕ) (t : Tally) (b : Book) → At tallies d t → At (closed_books c) d b → IsTallyOfBook t b

-- what was added and not taken away is what the history leaves
pub record AreBalanced (c : Closed) (tallies : List Tally) : Type 0 where
  pub size : size_of (keys_of (history_of c)) + sum_by (λ (t : Tally). t.removed) tallies ≡ sum_by (λ (t : Tally). t.added) tallies
  pub sum : sum_of (keys_of (history_of c)) + sum_by (λ (t : Tally). t.removed_sum) tallies ≡ sum_by (λ (t : Tally). t.added_sum) tallies
