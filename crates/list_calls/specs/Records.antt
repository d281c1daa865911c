-- The record that an insertion has from its tries: its hand, in which it may have none.
use Rattle.std.specs.Prelude.{List, [], ◌∷◌, Option, Some, None, MatchOption}
use Rattle.record_memory.specs.declared.books.View.{View}
use Rattle.row_words.specs.Refs.{RefParts}
use Rattle.record_rule.specs.HandingOut.{IsOwnOf}
use Rattle.record_table.specs.declared.nodes.Held.{Held}
use Rattle.record_pieces.specs.Events.{Event, took, gave_back}

-- the reference of a record that may be missing
abbrev pub target_of : Option Held → Option RefParts
target_of None = None
target_of (Some at) = Some at.target

-- an own record that is left over goes back
abbrev pub back : Option RefParts → List Event
back None = []
back (Some own) = gave_back own ∷ []

-- the first try that finds the key absent gets a record, and each later one has it
pub data HasRecord (own : RefParts) : Option RefParts → List Event → Type 0 where
  gets : HasRecord own None (took own ∷ [])
  has : HasRecord own (Some own) []

-- the record that the call has from an earlier try is its own
abbrev pub OwnsHand : View → Option RefParts → Type 0
OwnsHand v hand = MatchOption hand (Unit {0}) (λ own. IsOwnOf v own)
