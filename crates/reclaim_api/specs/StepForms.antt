-- The steps that reclaimers make, as they stand in their caller's list.
use Rattle.std.specs.Prelude.{◌≡◌, ℕ, ◌+◌, ◌*◌, ◌==◌, if◌then◌else◌, Option, None}
use Rattle.record_memory.specs.declared.steps.Word.TheVariants.{Epoch, Announced, Field}
use Rattle.record_memory.specs.declared.steps.StepKind.TheVariants.{Load, Store, Exchange}
use Rattle.record_memory.specs.declared.steps.Step.{Step}
use Rattle.record_memory.specs.declared.books.Book.{Book}
use Rattle.row_words.specs.Refs.{RefParts}
use Rattle.row_words.specs.declared.links.Freed.{Freed}
use Rattle.row_words.specs.Packing.{packed_number}
use Rattle.record_rule.specs.Kinds.{idle}
use Rattle.record_rule.specs.Asides.{chain_word}

-- nothing left limbo
abbrev pub IsNoneFreed : Freed → Type 0
IsNoneFreed f = (f.freed ≡ 0) × (f.spent ≡ 0)

-- the load of the epoch that found e
abbrev pub epoch_load : Book → ℕ → Step
epoch_load b e = record { kind = Load; word = Epoch; held = None; found = e; left = e; idle = idle b }

-- the exchange of the epoch from e to e + 1, where the epoch was n
abbrev pub epoch_exchange : Book → ℕ → ℕ → Step
epoch_exchange b e n = record { kind = Exchange; word = Epoch; held = None; found = n; left = if n == e then e + 1 else n; idle = idle b }

-- the load of the first announcement word of caller k that found n
abbrev pub announcement_load : Book → ℕ → ℕ → Step
announcement_load b k n = record { kind = Load; word = Announced (4 * k); held = None; found = n; left = n; idle = idle b }

-- the store of a value in one of its caller's own four announcement words, which held n
abbrev pub word_store : Book → ℕ → ℕ → ℕ → Step
word_store b k value n = record { kind = Store; word = Announced (4 * b.caller + k); held = None; found = n; left = value; idle = idle b }

-- the store of a retired record's stamp, and that of its chain word
abbrev pub stamp_store : Book → RefParts → ℕ → ℕ → Step
stamp_store b r stamp found = record { kind = Store; word = Field r.index 2; held = None; found = found; left = packed_number r.generation stamp; idle = idle b }

abbrev pub chain_store : Book → RefParts → Option RefParts → ℕ → Step
chain_store b r next found = record { kind = Store; word = Field r.index 1; held = None; found = found; left = chain_word r.generation next; idle = idle b }
