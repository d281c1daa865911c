-- A table as it is made, with its passes.
use Rattle.std.specs.Prelude.{◌≡◌, ℕ, ◌+◌, ◌<◌, ◌⊎◌, List, [], length, true, false}
use mathlib.Core.Option.{some}
use lib.ListN.{get_elem?}
use Rattle.set_model.specs.declared.names.SetName.{SetName}
use Rattle.set_model.specs.declared.names.ReclaimerName.{ReclaimerName}
use Rattle.set_model.specs.declared.names.AllocatorName.{AllocatorName}
use Rattle.record_memory.specs.declared.books.Setup.{Setup}
use Rattle.record_memory.specs.declared.books.View.{View}
use Rattle.record_memory.specs.declared.books.Book.{Book}
use Rattle.record_memory.specs.declared.books.Guard.{Guard}
use Rattle.record_rule.specs.Opening.{first_book}
use Rattle.record_table.specs.declared.table.Table.{Table}
use Rattle.record_table.specs.declared.passes.Pass.{Pass}
use Rattle.record_table.specs.Handles.{setup_of, view, since, is_inside, IsPassOf}

-- the pass of caller c, which made no step, and of which the other books that it carries are these
pub record IsFreshWith (setup : Setup) (first : Guard) (c : ℕ) (others : List Book) (v : View) : Type 0 where
  pub setup_is : v.setup ≡ setup
  pub present : v.present ≡ true
  pub own : v.own ≡ first_book setup first c
  pub others_are : v.others ≡ others
  pub front : v.front ≡ []
  pub updates : v.seen_updates ≡ []
  pub taken_out : v.seen_taken_out ≡ []

-- it made no step and carries no other caller's book
abbrev pub IsFresh : Setup → Guard → ℕ → View → Type 0
IsFresh setup first c v = IsFreshWith setup first c [] v

module _ {S R : Type 0} where
  -- it isn't inside a guard, and all that it knows it knew when it last was
  pub record IsOutside (p : Pass S R) : Type 0 where
    pub inside_is : is_inside p ≡ false
    pub since_is : since p ≡ view p

  -- these are the passes of the callers from `from` on, in order of number, and none made a step
  pub record AreFreshFrom (t : Table S R) (first : Guard) (from : ℕ) (passes : List (Pass S R)) : Type 0 where
    pub each_pass : (k : ℕ) (p : Pass S R) → get_elem? passes k ≡ some p → IsPassOf t p
    pub each_view : (k : ℕ) (p : Pass S R) → get_elem? passes k ≡ some p → IsFresh (setup_of t) first (from + k) (view p)
    pub each_outside : (k : ℕ) (p : Pass S R) → get_elem? passes k ≡ some p → IsOutside p

  -- these are the passes of all callers, in order of number, and none made a step
  pub record AreFreshPasses (t : Table S R) (first : Guard) (passes : List (Pass S R)) : Type 0 where
    pub all : length passes ≡ (setup_of t).callers
    pub each : AreFreshFrom t first 0 passes

abbrev pub setup_with : ℕ → ℕ → ℕ → ℕ → SetName → ReclaimerName → AllocatorName → Setup
setup_with records roots callers first set reclaimer allocator = record { records = records; roots = roots; callers = callers; first = first; set = set; reclaimer = reclaimer; allocator = allocator }

-- the numbers of records and of callers that are refused
abbrev pub AreBadRecords : ℕ → ℕ → Type 0
AreBadRecords records roots = (records < roots) ⊎ (1048575 < records)

abbrev pub AreBadCallers : ℕ → Type 0
AreBadCallers callers = (callers ≡ 0) ⊎ (64 < callers)
