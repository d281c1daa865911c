-- Callers that meet: what each knows afterwards of the updates that the others had seen.
use Rattle.std.specs.Prelude.{◌≡◌, ℕ, List, length, Bool}
use Rattle.set_model.specs.declared.calls.Update.{Update}
use Rattle.record_memory.specs.declared.books.View.{View}
use Rattle.record_rule.specs.Facts.{At}
use Rattle.record_rule.specs.World.{StartsWith}
use Rattle.record_table.specs.declared.table.Table.{Table}
use Rattle.record_table.specs.Handles.{view, IsPassOf, IsSamePass}
use Rattle.manager.specs.declared.types.Caller.{Caller}
use Rattle.manager.specs.Callers.{IsResting}

module _ {S R L : Type 0} where
  -- the updates that the caller knows to come before what it does next
  abbrev pub front_of : Caller S R L → List Update
  front_of c = (view c.pass).front

  -- it has seen all that this one had
  abbrev pub KnowsOf : Caller S R L → Caller S R L → Type 0
  KnowsOf c of = StartsWith (front_of c) (front_of of)

  -- it has seen what each of these had
  abbrev pub HasGathered : List (Caller S R L) → Caller S R L → Type 0
  HasGathered others into = (i : ℕ) (a : Caller S R L) → At others i a → KnowsOf into a

  -- each of these has seen what it had
  abbrev pub HaveLearnt : Caller S R L → List (Caller S R L) → Type 0
  HaveLearnt from others = (i : ℕ) (b : Caller S R L) → At others i b → KnowsOf b from

  -- the front of each begins with the old front of each
  abbrev pub HaveAllMet : List (Caller S R L) → List (Caller S R L) → Type 0
  HaveAllMet before after = (i j : ℕ) (a b : Caller S R L) → At before i a → At after j b → KnowsOf b a

  module _ (is_local : L → Bool → View → View → Type 0) (t : Table S R) where
    -- it is a caller of this table, and not inside an operation
    pub record IsAtRest (c : Caller S R L) : Type 0 where
      pub of : IsPassOf t c.pass
      pub resting : IsResting is_local c

    abbrev pub AreAtRest : List (Caller S R L) → Type 0
    AreAtRest callers = (i : ℕ) (c : Caller S R L) → At callers i c → IsAtRest c

    -- the same caller, which has seen no fewer updates, and knows all else as before
    pub record HasMet (a b : Caller S R L) : Type 0 where
      pub rest : IsAtRest b
      pub same : IsSamePass a.pass b.pass
      pub longer : KnowsOf b a
      pub unchanged : view b.pass ≡ record (view a.pass) { front = front_of b }

    -- the same callers, in the same order
    pub record HaveMet (before after : List (Caller S R L)) : Type 0 where
      pub many : length after ≡ length before
      pub each : (i : ℕ) (a b : Caller S R L) → At before i a → At after i b → HasMet a b
