-- What the words of a closed table of sorted lists say.
use Rattle.std.specs.Prelude.{◌≡◌, ℕ, ◌+◌, ◌-◌, ◌<◌, List, map, length, count_by, false}
use Rattle.set_model.specs.declared.calls.Update.{Update}
use Rattle.set_model.specs.Histories.{keys_of, removals_in}
use Rattle.record_memory.specs.declared.books.Setup.{Setup}
use Rattle.record_memory.specs.declared.books.Place.TheVariants.{Linked}
use Rattle.record_memory.specs.Memory.{memory}
use Rattle.row_words.specs.Refs.{RefParts}
use Rattle.record_rule.specs.Inputs.{shape_cell, ShapeInput, Trace}
use Rattle.record_rule.specs.Records.{IsSetup, Record, IsSound}
use Rattle.record_rule.specs.Facts.{At, key_at, ShapeFacts}
use Rattle.list_facts.specs.Lists.{ListFits}
use Rattle.list_facts.specs.Tellings.{IsMarked, is_marked_cell, ListTold}
use Rattle.list_facts.specs.Paths.{ArePaths, IsSetOf}

-- any flags
abbrev pub any_flags : ℕ → Type 0
any_flags n = Unit {0}

-- a set of sorted lists whose callers decide their own calls
pub record IsListSet (s : ShapeFacts) : Type 0 where
  pub fits : (setup : Setup) (x : ShapeInput) → s.formed setup x → ListFits any_flags setup x
  pub told : (setup : Setup) (x : ShapeInput) (h : Trace) → s.told setup x h → ListTold x h
  pub unhelped : ¬ s.helped

-- the rows of a table's words
abbrev pub table_rows : Setup → List ℕ → List (List ℕ)
table_rows setup words = (memory setup.callers setup.records words).rows

-- the record with the index i + 1 is linked
abbrev pub IsLinked : List Record → ℕ → Type 0
IsLinked records i = (r : Record) × At records i r × (r.place ≡ Linked)

-- These records have the rows of the words, and those that are linked stand in sorted lists
pub record AreListed (setup : Setup) (words : List ℕ) (records : List Record) : Type 0 where
  pub many : length records ≡ setup.records
  pub rows : map (λ (r : Record). r.row) records ≡ table_rows setup words
  pub sound : (i : ℕ) (r : Record) → At records i r → IsSound setup i r
  pub input : ShapeInput
  pub cells : input.cells ≡ map shape_cell records
  pub fits : ListFits any_flags setup input

-- A closed table of sorted lists
pub record ClosedLists (setup : Setup) (words : List ℕ) (history : List Update) (records : List Record) (taken_out : List RefParts) : Type 0 where
  pub numbers : IsSetup setup
  pub listed : AreListed setup words records
  -- each root has exactly one path, and what is linked stands on these alone, by its key
  pub paths : ArePaths setup (table_rows setup words) (IsLinked records)
  -- the keys on them without a mark are those that the history leaves
  pub set : IsSetOf setup (table_rows setup words) (keys_of history)
  -- each marked record has the position, from 1, of the removal that marked it
  pub marks : (i m : ℕ) (body : List ℕ) → IsMarked (map shape_cell records) i body m 0 → (0 < m) × ((u : Update) × At history (m - 1) u × (u.key ≡ key_at body) × (u.added ≡ false))
  -- and no other record has it
  pub alone : (i j m : ℕ) (body other : List ℕ) → IsMarked (map shape_cell records) i body m 0 → IsMarked (map shape_cell records) j other m 0 → i ≡ j
  -- each removal of the history marked a record, which was taken out or is linked still
  pub balance : removals_in history ≡ length taken_out + count_by is_marked_cell (map shape_cell records)
