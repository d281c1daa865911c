-- How many records of a table are in each place.
use Rattle.std.specs.Prelude.{◌≡◌, ℕ, ◌+◌, ◌-◌, List, length, count_by, sum_by, slice_index_or, Bool, nat_le}
use Rattle.record_memory.specs.declared.books.Setup.{Setup}
use Rattle.record_memory.specs.declared.books.Place.{Place}
use Rattle.row_words.specs.Packing.{own_in}
use Rattle.row_words.specs.Refs.{RefParts}
use Rattle.record_rule.specs.Records.{Record}
use Rattle.record_rule.specs.Inputs.{taken_cell}
use Rattle.record_rule.specs.Taken.{generation_of}
use Rattle.record_rule.specs.Standings.{is_undrawn, is_root, is_linked, is_shelved, is_had, is_handing, is_own, is_spare, is_taken_out, is_limbo, is_free, is_spent}

-- how many records are in the places that pass the test
abbrev pub count_in : (Place → Bool) → List Record → ℕ
count_in test records = count_by (λ (r : Record). test r.place) records

-- how many were ever drawn, roots aside, each counted in the place where it is
abbrev pub drawn_in : List Record → ℕ
drawn_in records = count_in is_linked records + count_in is_shelved records
    + (count_in (is_had is_handing) records + count_in (is_had is_own) records + count_in (is_had is_spare) records + count_in (is_had is_taken_out) records)
    + (count_in (is_had is_limbo) records + count_in (is_had is_free) records + count_in (is_had is_spent) records)

-- how often the records were handed out anew
abbrev pub reused_in : Setup → List Record → ℕ
reused_in setup records = sum_by (λ (r : Record). generation_of (taken_cell r) - setup.first) records

-- how many were taken out and not handed out since
abbrev pub unreused_in : List Record → ℕ
unreused_in records = count_in is_shelved records + count_in (is_had is_taken_out) records
    + (count_in (is_had is_limbo) records + count_in (is_had is_free) records + count_in (is_had is_spent) records)

-- the generation in a row's first word, and whether it is this one or a later one
abbrev pub generation_in : List ℕ → ℕ
generation_in row = own_in (slice_index_or row 0 0)

abbrev pub is_from : ℕ → List ℕ → Bool
is_from first row = nat_le first (generation_in row)

pub record CountsAddUp (setup : Setup) (rows : List (List ℕ)) (records : List Record) (taken_out : List RefParts) : Type 0 where
  pub roots : count_in is_root records ≡ setup.roots
  -- each record is counted once
  pub all : setup.roots + count_in is_undrawn records + drawn_in records ≡ setup.records
  -- where none is being handed out, the rows say how many were drawn, beside the roots, and how often they were handed out anew
  pub drawn : count_in (is_had is_handing) records ≡ 0 → count_by (is_from setup.first) rows ≡ setup.roots + drawn_in records
  pub reused : count_in (is_had is_handing) records ≡ 0 → sum_by (λ (row : List ℕ). generation_in row - setup.first) rows ≡ reused_in setup records
  -- each taking out is of a record that was handed out anew since, or wasn't
  pub takings : length taken_out ≡ reused_in setup records + unreused_in records
