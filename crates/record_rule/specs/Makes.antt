-- Steps after which a caller knows of nothing but its own records another thing.
use Rattle.std.specs.Prelude.{◌≡◌, List, ◌++◌}
use Rattle.record_memory.specs.declared.steps.Step.{Step}
use Rattle.record_memory.specs.declared.books.View.{View}

-- the caller made these steps, and what it knows of no other matter than its records changed. It may have drawn and reused records, and retired and freed none
pub record Makes (before after : View) (steps : List Step) : Type 0 where
  pub appended : after.own.steps ≡ before.own.steps ++ steps
  pub rest : after ≡ record before { own = record before.own { steps = after.own.steps; mine = after.own.mine; drawing = after.own.drawing; moves = after.own.moves } }
  pub retired : after.own.moves.retired ≡ before.own.moves.retired
  pub freed : after.own.moves.freed ≡ before.own.moves.freed
