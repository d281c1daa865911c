-- What is known of a table that was closed.
use Rattle.std.specs.Prelude.{◌≡◌, ℕ, zero, suc, ◌+◌, List, [], ◌∷◌, map, All}
use mathlib.Core.Option.{some}
use lib.ListN.{get_elem?}
use Rattle.atomic_table.specs.Table.{State}
use Rattle.set_model.specs.declared.calls.Update.{Update}
use Rattle.record_memory.specs.declared.books.Setup.{Setup}
use Rattle.record_memory.specs.declared.books.View.{View}
use Rattle.record_memory.specs.declared.books.Book.{Book}
use Rattle.record_rule.specs.Facts.{ShapeFacts, CoverFacts}
use Rattle.record_rule.specs.World.{StartsWith, carries}
use Rattle.record_rule.specs.ClosedTables.{ClosedFits}
use Rattle.record_table.specs.declared.closing.Closed.{Closed}
use Rattle.record_table.specs.declared.table.Table.{Table}
use Rattle.record_table.specs.declared.passes.Pass.{Pass}
use Rattle.record_table.specs.Handles.{setup_of, view, IsPassOf}

abbrev pub closed_words : Closed → List ℕ
closed_words c = c.words.items

abbrev pub closed_setup : Closed → Setup
closed_setup c = c.setup

-- what the last pass knew
abbrev pub closed_view : Closed → View
closed_view c = c.last.value.me.0

-- the books of its callers, by number: the steps and the answered calls of each
abbrev pub closed_books : Closed → List Book
closed_books c = carries (closed_view c)

-- the updates of the table, in the order in which they took effect
abbrev pub history_of : Closed → List Update
history_of c = (closed_view c).front

-- the table was closed by the facts of this set and of this reclaimer
abbrev pub IsClosedBy : ShapeFacts → CoverFacts → Closed → Type 0
IsClosedBy s r c = ClosedFits s r (closed_setup c) (closed_words c) (closed_books c) (history_of c)

-- the numbers from `from` on
abbrev pub numbers_from : ℕ → ℕ → List ℕ
numbers_from from zero = []
numbers_from from (suc n) = from ∷ numbers_from (from + 1) n

-- a pass that carries the books of all callers, in order of number
abbrev pub IsLastOf : Setup → View → Type 0
IsLastOf setup v = map (λ (b : Book). b.caller) (carries v) ≡ numbers_from 0 setup.callers

-- the table ended in a state in which the rule holds, some pass knows this, and the words are these
pub record IsEndOf (holds : State (Unit {0}) View → Type 0) (v : View) (words : List ℕ) : Type 0 where
  pub state : State (Unit {0}) View
  pub rule : holds state
  pub seat : ℕ
  pub known : get_elem? state.views seat ≡ some v
  pub words_are : state.words ≡ words

module _ {S R : Type 0} where
  abbrev pub own_book : Pass S R → Book
  own_book p = (view p).own

  abbrev pub own_caller : Pass S R → ℕ
  own_caller p = (view p).own.caller

  -- it is a pass of this table that has absorbed no other
  pub record IsWholePassOf (t : Table S R) (p : Pass S R) : Type 0 where
    pub pass : IsPassOf t p
    pub whole : (view p).others ≡ []

  -- what the pass knew of the updates begins the closed history
  abbrev pub BeginsHistory : Closed → Pass S R → Type 0
  BeginsHistory c p = StartsWith (history_of c) (view p).front

  -- these are all passes of this table, in order of number
  pub record AreAllPasses (t : Table S R) (passes : List (Pass S R)) : Type 0 where
    pub each : All (IsWholePassOf t) passes
    pub order : map own_caller passes ≡ numbers_from 0 (setup_of t).callers
