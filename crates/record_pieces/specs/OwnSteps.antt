-- An owner's steps on the words of a record that it has.
use Rattle.std.specs.Prelude.{◌≡◌, ℕ, [], ◌∷◌, ◌++◌, None}
use Rattle.record_memory.specs.declared.steps.Step.{Step}
use Rattle.record_memory.specs.declared.steps.Word.TheVariants.{Field}
use Rattle.record_memory.specs.declared.steps.StepKind.TheVariants.{Load, Store}
use Rattle.record_memory.specs.declared.books.Book.{Book}
use Rattle.row_words.specs.Refs.{RefParts}
use Rattle.record_rule.specs.Kinds.{idle}

-- one step more
abbrev pub OneStep : Book → Step → Book → Type 0
OneStep b t c = c.steps ≡ b.steps ++ t ∷ []

-- the owner's load and store of a word of its record
abbrev pub own_load : Book → RefParts → ℕ → ℕ → Step
own_load b r f n = record { kind = Load; word = Field r.index f; held = None; found = n; left = n; idle = idle b }

abbrev pub own_store : Book → RefParts → ℕ → ℕ → ℕ → Step
own_store b r f found left = record { kind = Store; word = Field r.index f; held = None; found = found; left = left; idle = idle b }
