-- The records that a caller has in hand.
use Rattle.std.specs.Prelude.{ℕ, Bool, true, false}
use Rattle.record_memory.specs.declared.books.Book.{Book}
use Rattle.record_memory.specs.declared.books.Standing.{Standing}
use Rattle.record_memory.specs.declared.books.Standing.TheVariants.{Handing, Own, Spare, TakenOut, Limbo, Free, Spent}
use Rattle.reclaim_api.specs.Frames.{had}

-- a record that is being handed out, that is its caller's own, or that it took out and didn't retire
abbrev pub is_in_hand : Standing → Bool
is_in_hand (Handing n) = true
is_in_hand Own = true
is_in_hand Spare = false
is_in_hand TakenOut = true
is_in_hand Limbo = false
is_in_hand Free = false
is_in_hand Spent = false

-- how many it has so
abbrev pub in_hand : Book → ℕ
in_hand b = had is_in_hand b
