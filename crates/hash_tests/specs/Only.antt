-- A table with one caller.
use Rattle.std.specs.Prelude.{◌≡◌, [], ◌∷◌, Bool}
use Rattle.record_memory.specs.declared.books.View.{View}
use Rattle.record_table.specs.declared.table.Table.{Table}
use Rattle.record_table.specs.Handles.{setup_of, view}
use Rattle.record_table.specs.Closing.{numbers_from}
use Rattle.manager.specs.declared.types.Caller.{Caller}
use Rattle.michael_hash.specs.Callers.{IsWholeCallerOf}

-- this is it, and it isn't inside an operation
pub record IsOnlyCallerOf {S R L : Type 0} (is_local : L → Bool → View → View → Type 0) (t : Table S R) (c : Caller S R L) : Type 0 where
  pub whole : IsWholeCallerOf is_local t c
  pub order : (view c.pass).own.caller ∷ [] ≡ numbers_from 0 (setup_of t).callers
