-- What an insertion leaves of the records that its caller has spare.
use Rattle.std.specs.Prelude.{ℕ, List, true, false}
use Rattle.set_model.specs.declared.calls.InsertAnswer.{InsertAnswer}
use Rattle.set_model.specs.declared.calls.InsertAnswer.TheVariants.{Done, Full, Again}
use Rattle.record_memory.specs.declared.books.Book.{Book}
use Rattle.row_words.specs.Refs.{RefParts}
use Rattle.record_rule.specs.Facts.{At}
use Rattle.record_pieces.specs.Events.{Event, took}
use Rattle.record_pieces.specs.Spares.{IsSpareIn, KeepsSpares}

-- each record that was spare is spare still, and so is each that these events got
pub record LeavesSpare (es : List Event) (b c : Book) : Type 0 where
  pub kept : KeepsSpares b c
  pub got : (i : ℕ) (r : RefParts) → At es i (took r) → IsSpareIn c r

-- so it is where an insertion didn't add its key; where it did, it linked the record that it got
abbrev pub GivesBack : InsertAnswer → List Event → Book → Book → Type 0
GivesBack (Done true) es b c = Unit {0}
GivesBack (Done false) es b c = LeavesSpare es b c
GivesBack (Full found) es b c = LeavesSpare es b c
GivesBack (Again hops) es b c = LeavesSpare es b c
