-- What the moves of all callers come to once a table of sorted lists is closed, and where its records are.
use Rattle.std.specs.Prelude.{◌≡◌, ℕ, ◌+◌, ◌-◌, List, map, count_by, sum_by}
use Rattle.set_model.specs.declared.calls.Counts.{Counts}
use Rattle.set_model.specs.Histories.{removals_in}
use Rattle.record_memory.specs.declared.books.Book.{Book}
use Rattle.row_words.specs.Refs.{RefParts}
use Rattle.record_rule.specs.Counts.{drawn_by, reused_by, retired_by, freed_by}
use Rattle.record_rule.specs.Inputs.{shape_cell}
use Rattle.record_rule.specs.PlaceCounts.{count_in, generation_in, is_from}
use Rattle.record_rule.specs.Records.{Record}
use Rattle.record_rule.specs.Standings.{is_linked, is_limbo, is_free, is_spare, is_spent}
use Rattle.record_table.specs.Closing.{closed_books, closed_setup, history_of}
use Rattle.record_table.specs.declared.closing.Closed.{Closed}
use Rattle.reclaim_api.specs.Frames.{had}
use Rattle.list_facts.specs.Tellings.{is_marked_cell}
use Rattle.closed_lists.specs.Listed.{AreListsOf}
use Rattle.key_sums.specs.Sums.{closed_rows}
use Rattle.set_runs.specs.Totals.{on_shelves}

-- how often the records were handed out anew, by their rows: their generations less the first one
abbrev pub anew_in : Closed → ℕ
anew_in c = sum_by (λ (row : List ℕ). generation_in row - (closed_setup c).first) (closed_rows c)

-- how many of its records are linked, and how many of these have a mark
abbrev pub linked_in : List Record → ℕ
linked_in records = count_in is_linked records

abbrev pub marked_in : List Record → ℕ
marked_in records = count_by is_marked_cell (map shape_cell records)

-- The moves of all callers are those that its rows, its records and its history show
pub record ShowsMoves (c : Closed) : Type 0 where
  -- its records, of which those that are linked stand on the paths of the roots, and those that were taken out
  pub records : List Record
  pub taken_out : List RefParts
  pub lists : AreListsOf c records taken_out
  -- roots aside, so many rows have the first generation or a later one
  pub drawn : (closed_setup c).roots + sum_by drawn_by (closed_books c) ≡ count_by (is_from (closed_setup c).first) (closed_rows c)
  pub reused : sum_by reused_by (closed_books c) ≡ anew_in c
  -- the history has a removal for each record that was retired and for each that is linked and has a mark
  pub retired : sum_by retired_by (closed_books c) + marked_in records ≡ removals_in (history_of c)
  -- as many were drawn as are linked, and in limbo, free, spare or spent: free ones are some caller's or on a shelf, and the others some caller's
  pub places : sum_by (had is_limbo) (closed_books c) + (sum_by (had is_free) (closed_books c) + on_shelves c) + sum_by (had is_spare) (closed_books c) + sum_by (had is_spent) (closed_books c) + linked_in records ≡ sum_by drawn_by (closed_books c)
  -- as many were freed as were handed out anew, are free and are spent; and as many retired as were freed and are in limbo
  pub freed : sum_by freed_by (closed_books c) ≡ sum_by reused_by (closed_books c) + (sum_by (had is_free) (closed_books c) + on_shelves c) + sum_by (had is_spent) (closed_books c)
  pub limbo : sum_by (had is_limbo) (closed_books c) + sum_by freed_by (closed_books c) ≡ sum_by retired_by (closed_books c)

-- The counts of a run are the sums over all callers, with so many more free records on shelves: none of them stood still at its type's end
pub record AreSumsOf (n : Counts) (books : List Book) (shelved : ℕ) : Type 0 where
  pub drawn : n.drawn ≡ sum_by drawn_by books
  pub reused : n.reused ≡ sum_by reused_by books
  pub retired : n.retired ≡ sum_by retired_by books
  pub freed : n.freed ≡ sum_by freed_by books
  pub limbo : n.limbo ≡ sum_by (had is_limbo) books
  pub free : n.free ≡ sum_by (had is_free) books + shelved
  pub spare : n.spare ≡ sum_by (had is_spare) books
  pub spent : n.spent ≡ sum_by (had is_spent) books
