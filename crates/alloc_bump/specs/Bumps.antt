-- The steps of a draw.
use Rattle.std.specs.Prelude.{◌≡◌, ℕ, ◌+◌, ◌<◌, ◌≤◌, ◌⊎◌}
use Rattle.record_memory.specs.declared.books.View.{View}
use Rattle.row_words.specs.Refs.{RefParts}
use Rattle.record_memory.specs.declared.steps.Word.TheVariants.{Drawn}
use Rattle.record_memory.specs.Memory.{address}
use Rattle.record_rule.specs.Kinds.{loaded_control, drew}

-- the word was looked at while a record was left, and then added to: the record drawn is the one behind those that were
pub record Draws (before : View) (r : RefParts) (after : View) : Type 0 where
  pub seen : ℕ
  pub below : seen < before.setup.records
  pub found : ℕ
  pub left : found < before.setup.records
  pub index : r.index ≡ found + 1
  pub steps : after ≡ drew (loaded_control before (address before.setup.callers Drawn) seen) found

-- the look found no record left
pub record Looks (before : View) (found : ℕ) (after : View) : Type 0 where
  pub none : before.setup.records ≤ found
  pub steps : after ≡ loaded_control before (address before.setup.callers Drawn) found

-- the look found a record left, and when the word was added to, there was none
pub record Misses (before : View) (found : ℕ) (after : View) : Type 0 where
  pub seen : ℕ
  pub below : seen < before.setup.records
  pub none : before.setup.records ≤ found
  pub steps : after ≡ drew (loaded_control before (address before.setup.callers Drawn) seen) found

-- one of at most two steps found this, and no record was left
abbrev pub Refuses : View → ℕ → View → Type 0
Refuses before found after = Looks before found after ⊎ Misses before found after
