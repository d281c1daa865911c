-- The steps of a draw.
use Rattle.std.specs.Prelude.{◌≡◌, ℕ, ◌+◌, ◌<◌}
use Rattle.record_memory.specs.declared.books.View.{View}
use Rattle.row_words.specs.Refs.{RefParts}
use Rattle.record_memory.specs.declared.steps.Word.TheVariants.{Cursor}
use Rattle.record_memory.specs.Memory.{address}
use Rattle.record_rule.specs.World.{range}
use Rattle.record_rule.specs.Kinds.{loaded_control}
use Rattle.record_rule.specs.OwnDraws.{own_place, drew_own}

-- the caller looked at its cursor, which is the number of records that it drew
abbrev pub looked : View → View
looked v = loaded_control v (address v.setup.callers (Cursor v.own.caller)) v.own.moves.drawn

-- its range has more, and it stored one more there: the record drawn is the one of its range behind those that it drew
pub record Draws (before : View) (r : RefParts) (after : View) : Type 0 where
  pub more : before.own.moves.drawn < range before.setup
  pub index : r.index ≡ own_place before before.own.moves.drawn + 1
  pub steps : after ≡ drew_own (looked before) before.own.moves.drawn

-- it drew all of its range, and found as many
pub record Refuses (before : View) (found : ℕ) (after : View) : Type 0 where
  pub all : before.own.moves.drawn ≡ range before.setup
  pub found_all : found ≡ range before.setup
  pub steps : after ≡ looked before
