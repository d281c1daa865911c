-- What a workload leaves that was played on a set which callers share.
use Rattle.std.specs.Prelude.{◌≡◌, ℕ, ◌<◌, List, length, map, Some, slice_get, slice_index_or}
use Rattle.std.specs.Global.{Vec}
use Rattle.set_model.specs.declared.calls.Call.{Call}
use Rattle.set_model.specs.declared.calls.Counts.{Counts}
use Rattle.set_model.specs.declared.calls.Reply.{Reply}
use Rattle.record_memory.specs.declared.books.Book.{Book}
use Rattle.record_memory.specs.declared.books.Guard.{Guard}
use Rattle.record_memory.specs.declared.books.Setup.{Setup}
use Rattle.record_memory.specs.declared.books.View.{View}
use Rattle.record_rule.specs.Facts.{ShapeFacts, CoverFacts}
use Rattle.record_table.specs.Closing.{closed_setup, closed_books, IsClosedBy}
use Rattle.record_table.specs.Made.{IsFresh}
use Rattle.record_table.specs.declared.closing.Closed.{Closed}
use Rattle.manager.specs.Made.{AreAddedUp}
use Rattle.set_api.specs.declared.answer.Answer.{Answer}
use Rattle.set_api.specs.Turns.{Phases}
use Rattle.set_runs.specs.declared.players.Player.{Player}
use Rattle.set_runs.specs.Playing.{phases_of, IsSeated}
use Rattle.set_runs.specs.Totals.{AreTotalsOf, on_shelves, with_free}

-- Each has its seat and made no step yet
pub record AreAtStart {T C : Type 0} (has : T → C → Type 0) (set : T) (view : C → View) (setup : Setup) (first : Guard) (lists : List (List (List Call))) (players : List (Player C)) : Type 0 where
  pub all : length players ≡ length lists
  pub callers : setup.callers ≡ length lists
  pub seated : (i : ℕ) (d : Player C) → i < length players → IsSeated lists i (slice_index_or players i d)
  pub has_each : (i : ℕ) (d : Player C) → i < length players → has set (slice_index_or players i d).caller
  pub fresh : (i : ℕ) (d : Player C) → i < length players → IsFresh setup first i (view (slice_index_or players i d).caller)

-- The calls of one caller, phase by phase, with the replies that it was given, lead from the book of a caller that made no step to this one
pub record IsCallersPlay (steps : Call → ℕ → Answer → Book → Book → Type 0) (budget : ℕ) (setup : Setup) (first : Guard) (number : ℕ) (phases : List (List Call)) (replies : List Reply) (bounds : List ℕ) (book : Book) : Type 0 where
  pub start : View
  pub left : View
  pub fresh : IsFresh setup first number start
  pub played : Phases steps budget phases replies bounds start left
  pub book_is : left.own ≡ book

-- A table of these numbers and names was closed by the facts of the set and of the reclaimer. To the book that it has of each caller lead
-- that caller's calls with its replies. Whatever is in `bounds` of a phase comes between all calls of the phases before and all calls of this one.
pub record IsSetRun (s : ShapeFacts) (c : CoverFacts) (steps : Setup → Call → ℕ → Answer → Book → Book → Type 0) (budget : ℕ) (setup : Setup) (lists : List (List (List Call))) (replies : List (List Reply)) (counts : Counts) (closed : Closed) : Type 0 where
  pub setup_is : closed_setup closed ≡ setup
  pub fits : IsClosedBy s c closed
  pub moves : AreAddedUp closed
  -- those of all callers, and the free records on shelves too
  pub totals : Counts
  pub totals_are : AreTotalsOf totals (closed_books closed)
  pub counts_are : counts ≡ with_free totals (on_shelves closed)
  pub all_replies : length replies ≡ length lists
  pub all_books : length (closed_books closed) ≡ length lists
  pub bounds : List ℕ
  pub each : (i : ℕ) (own : List Reply) (book : Book) → slice_get replies i ≡ Some own → slice_get (closed_books closed) i ≡ Some book → IsCallersPlay (steps setup) budget setup c.first i (phases_of lists i) own bounds book
