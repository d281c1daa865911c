-- What a reclaimer, an allocator and a pool say of their steps.
use Rattle.std.specs.Prelude.{ℕ, Bool}
use Rattle.record_memory.specs.declared.books.Setup.{Setup}
use Rattle.record_memory.specs.declared.books.Book.{Book}
use Rattle.row_words.specs.Refs.{RefParts}
use Rattle.row_words.specs.declared.links.Freed.{Freed}
use Rattle.record_table.specs.declared.nodes.Node.{Node}
use Rattle.reclaim_api.specs.declared.holding.Holding.{Holding}

-- each a relation between a caller's book before and after
pub record Manner : Type 1 where
  -- the reclaimer's: entering an operation, leaving it, a birth, a try to hold, and putting a record away
  pub enters : Setup → Book → Freed → Book → Type 0
  pub leaves : Setup → Book → Book → Type 0
  pub bears : Setup → Book → ℕ → Book → Type 0
  pub reaches : Setup → ℕ → Node → ℕ → Book → Holding → Book → Type 0
  pub puts_away : Setup → Book → RefParts → Freed → Book → Type 0
  -- the allocator's: a draw, and one that found none left
  pub draws : Setup → Book → RefParts → Book → Type 0
  pub refuses : Setup → Book → ℕ → Book → Type 0
  -- the pool's: how many shelves it has; whether a chain came, or every shelf was looked at and found empty; whether one was put on a shelf, or every shelf was looked at and found taken
  pub shelves : ℕ
  pub takes : Setup → Book → Bool → Book → Type 0
  pub gives : Setup → Book → Bool → Book → Type 0
