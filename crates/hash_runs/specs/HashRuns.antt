-- What a run on the hash table leaves, by its reclaimer.
use Rattle.std.specs.Prelude.{ℕ, ◌+◌, ◌*◌, List, length}
use Rattle.set_model.specs.declared.calls.Call.{Call}
use Rattle.set_model.specs.declared.calls.Counts.{Counts}
use Rattle.set_model.specs.declared.calls.Reply.{Reply}
use Rattle.set_model.specs.declared.names.SetName.TheVariants.{Michael}
use Rattle.set_model.specs.declared.names.AllocatorName.TheVariants.{Bump}
use Rattle.row_words.specs.Refs.{RefParts}
use Rattle.row_words.specs.declared.links.Freed.{Freed}
use Rattle.record_memory.specs.declared.books.Book.{Book}
use Rattle.record_memory.specs.declared.books.Setup.{Setup}
use Rattle.record_rule.specs.Facts.{CoverFacts}
use Rattle.record_table.specs.Made.{setup_with}
use Rattle.record_table.specs.declared.closing.Closed.{Closed}
use Rattle.record_table.specs.declared.nodes.Node.{Node}
use Rattle.reclaim_api.specs.declared.holding.Holding.{Holding}
use Rattle.record_pieces.specs.Manners.{Manner}
use Rattle.alloc_bump.specs.Bumps.{Draws, Refuses}
use Rattle.manager.specs.Manners.{manner}
use Rattle.list_facts.specs.Michael.{michael}
use Rattle.michael_hash.specs.Pieces.{MakesPiece}
use Rattle.set_runs.specs.Runs.{IsSetRun}

-- the steps of a reclaimer, by its relations, of the allocator that counts in one word and of the pool of 16 shelves
abbrev pub manner_of : (Setup → Book → Freed → Book → Type 0) → (Setup → Book → Book → Type 0) → (Setup → Book → ℕ → Book → Type 0)
    → (Setup → ℕ → Node → ℕ → Book → Holding → Book → Type 0) → (Setup → Book → RefParts → Freed → Book → Type 0) → Manner
manner_of enters leaves bears reaches puts_away = manner enters leaves bears reaches puts_away Draws Refuses 16 (λ steps. ⊥)

-- a table of so many records and buckets for so many callers, prepared at generation 1, under the reclaimer with these facts
abbrev pub hash_setup : CoverFacts → ℕ → ℕ → ℕ → Setup
hash_setup c records buckets callers = setup_with records buckets callers 1 Michael c.name Bump

-- how many hops a run on so many records gives each call
abbrev pub hops_for : ℕ → ℕ
hops_for records = 2 * records + 64

-- a run on such a table, within this budget of hops
abbrev pub IsRunUnder : CoverFacts → Manner → ℕ → ℕ → List (List (List Call)) → List (List Reply) → Counts → Closed → Type 0
IsRunUnder c m records buckets lists replies counts closed =
    IsSetRun michael c (MakesPiece m) (hops_for records) (hash_setup c records buckets (length lists)) lists replies counts closed
