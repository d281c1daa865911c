-- A record that was drawn.
use Rattle.std.specs.Prelude.{◌≡◌, ◌-◌, List, slice_set, Some, None}
use Rattle.record_memory.specs.declared.steps.Step.{Step}
use Rattle.record_memory.specs.declared.books.View.{View}
use Rattle.row_words.specs.Refs.{RefParts}
use Rattle.record_rule.specs.Kinds.{drew_one, share_in, drawn_share}
use Rattle.record_rule.specs.Makes.{Makes}
use Rattle.record_rule.specs.HandingOut.{HasDrawn}

-- The caller didn't have the record before, and now has it with its first generation. Its words are those of a record that was never handed out
pub record IsNew (before after : View) (r : RefParts) : Type 0 where
  pub drawn : HasDrawn after r
  pub first : r.generation ≡ before.setup.first
  pub new : share_in before r.index ≡ None
  pub untouched : share_in after r.index ≡ Some (drawn_share before.setup.first)

-- the record came to the caller, and of nothing else it knows another thing
pub record GetsOne (before after : View) (r : RefParts) : Type 0 where
  pub steps : List Step
  pub made : Makes before after steps
  pub mine : after.own.mine ≡ slice_set before.own.mine (r.index - 1) (Some (drawn_share before.setup.first))
  pub moves : after.own.moves ≡ drew_one before.own.moves

-- none came
pub record GetsNone (before after : View) : Type 0 where
  pub steps : List Step
  pub made : Makes before after steps
  pub mine : after.own.mine ≡ before.own.mine
  pub moves : after.own.moves ≡ before.own.moves
