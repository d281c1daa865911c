-- Tests of where a record is, and of how its caller has it.
use Rattle.std.specs.Prelude.{Bool, true, false}
use Rattle.record_memory.specs.declared.books.Standing.{Standing}
use Rattle.record_memory.specs.declared.books.Standing.TheVariants.{Handing, Own, Spare, TakenOut, Limbo, Free, Spent}
use Rattle.record_memory.specs.declared.books.Place.{Place}
use Rattle.record_memory.specs.declared.books.Place.TheVariants.{Undrawn, Root, Linked, Shelved, Of}

abbrev pub is_undrawn : Place → Bool
is_undrawn Undrawn = true
is_undrawn Root = false
is_undrawn Linked = false
is_undrawn (Shelved k) = false
is_undrawn (Of c s) = false

abbrev pub is_root : Place → Bool
is_root Undrawn = false
is_root Root = true
is_root Linked = false
is_root (Shelved k) = false
is_root (Of c s) = false

abbrev pub is_linked : Place → Bool
is_linked Undrawn = false
is_linked Root = false
is_linked Linked = true
is_linked (Shelved k) = false
is_linked (Of c s) = false

abbrev pub is_shelved : Place → Bool
is_shelved Undrawn = false
is_shelved Root = false
is_shelved Linked = false
is_shelved (Shelved k) = true
is_shelved (Of c s) = false

-- some caller has it in a way that passes the test
abbrev pub is_had : (Standing → Bool) → Place → Bool
is_had test Undrawn = false
is_had test Root = false
is_had test Linked = false
is_had test (Shelved k) = false
is_had test (Of c s) = test s

abbrev pub is_handing : Standing → Bool
is_handing (Handing n) = true
is_handing Own = false
is_handing Spare = false
is_handing TakenOut = false
is_handing Limbo = false
is_handing Free = false
is_handing Spent = false

abbrev pub is_own : Standing → Bool
is_own (Handing n) = false
is_own Own = true
is_own Spare = false
is_own TakenOut = false
is_own Limbo = false
is_own Free = false
is_own Spent = false

abbrev pub is_spare : Standing → Bool
is_spare (Handing n) = false
is_spare Own = false
is_spare Spare = true
is_spare TakenOut = false
is_spare Limbo = false
is_spare Free = false
is_spare Spent = false

abbrev pub is_taken_out : Standing → Bool
is_taken_out (Handing n) = false
is_taken_out Own = false
is_taken_out Spare = false
is_taken_out TakenOut = true
is_taken_out Limbo = false
is_taken_out Free = false
is_taken_out Spent = false

abbrev pub is_limbo : Standing → Bool
is_limbo (Handing n) = false
is_limbo Own = false
is_limbo Spare = false
is_limbo TakenOut = false
is_limbo Limbo = true
is_limbo Free = false
is_limbo Spent = false

abbrev pub is_free : Standing → Bool
is_free (Handing n) = false
is_free Own = false
is_free Spare = false
is_free TakenOut = false
is_free Limbo = false
is_free Free = true
is_free Spent = false

abbrev pub is_spent : Standing → Bool
is_spent (Handing n) = false
is_spent Own = false
is_spent Spare = false
is_spent TakenOut = false
is_spent Limbo = false
is_spent Free = false
is_spent Spent = true
