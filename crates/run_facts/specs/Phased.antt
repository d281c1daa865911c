-- How the calls of each phase lie in the history.
use Rattle.std.specs.Prelude.{◌≡◌, ℕ, ◌<◌, ◌≤◌, List, take, length}
use Rattle.set_model.specs.declared.calls.Call.{Call}
use Rattle.set_model.specs.declared.calls.Reply.{Reply}
use Rattle.record_memory.specs.declared.books.Answered.{Answered}
use Rattle.record_memory.specs.declared.books.Book.{Book}
use Rattle.record_rule.specs.Facts.{At}
use Rattle.record_rule.specs.Histories.{before, after}
use Rattle.workload_text.specs.Limits.{calls_of_all}
use Rattle.key_sums.specs.Balances.{answered_among}
use Rattle.run_facts.specs.Replies.{with_replies}

-- how many calls were answered in the phases before this one
abbrev pub answered_before : List (List Call) → List Reply → ℕ → ℕ
answered_before phases replies p = length (answered_among (with_replies (calls_of_all (take p phases)) replies))

-- Each phase has a bound, which parts the history: the calls of earlier phases come before it, and those of this one and of later ones behind it
pub record ArePhased (phases : List (List Call)) (replies : List Reply) (bounds : List ℕ) (book : Book) : Type 0 where
  pub one_each : length bounds ≡ length phases
  pub earlier : (p bound n : ℕ) (a : Answered) → At bounds p bound → At book.answered n a → n < answered_before phases replies p → after a ≤ bound
  pub later : (p bound n : ℕ) (a : Answered) → At bounds p bound → At book.answered n a → answered_before phases replies p ≤ n → bound ≤ before a
