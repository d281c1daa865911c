-- What calls of a list leave in their caller's hand.
use Rattle.std.proofs.Common.{ℕ, List, Option, Some, None, refl}
use Rattle.row_words.specs.Refs.{RefParts}
use Rattle.record_pieces.specs.Events.{Event}
use Rattle.record_pieces.proofs.Hands.{Hands}
use Rattle.list_calls.specs.Records.{HasRecord, back}

-- as many come into the hand as leave it
abbrev pub Balances : List Event → Type 0
Balances es = Hands 0 es 0

-- the own record that an insertion has from its tries
abbrev pub own_from : Option RefParts → ℕ
own_from None = 0
own_from (Some own) = 1

-- the try has one
pub record_hands : {own : RefParts} {hand : Option RefParts} {es : List Event} → HasRecord own hand es → Hands (own_from hand) es 1
record_hands HasRecord.gets = record { sums = refl }
record_hands HasRecord.has = record { sums = refl }

-- one that is left over goes back
pub back_hands : (hand : Option RefParts) → Hands (own_from hand) (back hand) 0
back_hands None = record { sums = refl }
back_hands (Some own) = record { sums = refl }
