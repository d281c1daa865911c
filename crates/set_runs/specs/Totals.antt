-- What the counts of a run say of the moves and of the records of all its callers, and of what lies on shelves.
use Rattle.std.specs.Prelude.{◌≡◌, ℕ, ◌+◌, ◌<◌, ◌^◌, List, All, sum_by, ◌==◌, if◌then◌else◌}
use Rattle.set_model.specs.declared.calls.Counts.{Counts}
use Rattle.record_memory.specs.declared.books.Book.{Book}
use Rattle.record_memory.specs.Memory.{memory}
use Rattle.record_rule.specs.Counts.{drawn_by, reused_by, retired_by, freed_by}
use Rattle.record_rule.specs.Standings.{is_limbo, is_free, is_spare, is_spent}
use Rattle.record_table.specs.Closing.{closed_setup, closed_words}
use Rattle.record_table.specs.declared.closing.Closed.{Closed}
use Rattle.reclaim_api.specs.Frames.{had}
use Rattle.manager.specs.Counted.{shown}

-- each is the sum over all callers, and stands still at its type's end
pub record AreTotalsOf (c : Counts) (books : List Book) : Type 0 where
  pub drawn : c.drawn ≡ shown (sum_by drawn_by books)
  pub reused : c.reused ≡ shown (sum_by reused_by books)
  pub retired : c.retired ≡ shown (sum_by retired_by books)
  pub freed : c.freed ≡ shown (sum_by freed_by books)
  -- before a count of those that a caller retired stands still
  pub limbo : All (λ b. b.moves.retired < 2 ^ 64) books → c.limbo ≡ shown (sum_by (had is_limbo) books)
  pub free : c.free ≡ shown (sum_by (had is_free) books)
  pub spare : c.spare ≡ shown (sum_by (had is_spare) books)
  pub spent : c.spent ≡ shown (sum_by (had is_spent) books)

-- the words of the shelves of a closed table
abbrev pub shelf_words : Closed → List ℕ
shelf_words closed = (memory (closed_setup closed).callers (closed_setup closed).records (closed_words closed)).shelves

-- how many records a shelf with this word has: none where it is 0, and else those of a chain
abbrev pub chain_in : ℕ → ℕ
chain_in word = if word == 0 then 0 else 32

-- how many records the shelves of a closed table have, by their words
abbrev pub on_shelves : Closed → ℕ
on_shelves closed = sum_by chain_in (shelf_words closed)

-- the counts with so many more free records, whose number stands still at its type's end
abbrev pub with_free : Counts → ℕ → Counts
with_free c more = record c { free = shown (c.free + more) }
