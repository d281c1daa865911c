-- The callers of a manager, as it is made and as it is closed.
use Rattle.std.specs.Prelude.{◌≡◌, ◌+◌, List, map, sum_by}
use Rattle.record_memory.specs.declared.books.Book.{Book}
use Rattle.record_memory.specs.Memory.{memory}
use Rattle.record_rule.specs.Records.{Record}
use Rattle.record_rule.specs.World.{Places}
use Rattle.record_rule.specs.Counts.{reused_by, retired_by, freed_by}
use Rattle.record_rule.specs.Standings.{is_shelved, is_limbo, is_free, is_spent}
use Rattle.record_rule.specs.PlaceCounts.{count_in}
use Rattle.reclaim_api.specs.Frames.{had}
use Rattle.record_table.specs.declared.closing.Closed.{Closed}
use Rattle.record_table.specs.Closing.{closed_setup, closed_words, closed_books}
use Rattle.record_table.specs.declared.passes.Pass.{Pass}
use Rattle.manager.specs.declared.types.Caller.{Caller}

module _ {S R L : Type 0} where
  abbrev pub pass_of : Caller S R L → Pass S R
  pass_of c = c.pass

  -- their passes, in order
  abbrev pub passes_of : List (Caller S R L) → List (Pass S R)
  passes_of callers = map pass_of callers

-- What the moves of all callers add up to, by what the callers have and what lies on shelves
pub record MovesAddUp (records : List Record) (books : List Book) : Type 0 where
  -- what was freed was handed out anew, or is free, in a chain or on a shelf, or is spent
  pub freed : sum_by freed_by books ≡ sum_by reused_by books + (count_in is_shelved records + sum_by (had is_free) books) + sum_by (had is_spent) books
  -- what was retired was freed, or is in limbo
  pub limbo : sum_by (had is_limbo) books + sum_by freed_by books ≡ sum_by retired_by books

-- each record of a closed table is in its place, and by these places its callers' moves add up
pub record AreAddedUp (c : Closed) : Type 0 where
  pub records : List Record
  pub placed : Places (closed_setup c) records (closed_books c) (memory (closed_setup c).callers (closed_setup c).records (closed_words c))
  pub sums : MovesAddUp records (closed_books c)
