-- What the replies of a run say of each other, in the words of someone who knows no set: each reply tells what the
-- last call that changed its key did.
use Rattle.std.specs.Prelude.{◌≡◌, ℕ, ◌==◌, Bool, true, false, Option, Some, None, unwrap_or, if◌then◌else◌, List, [], ◌∷◌}
use Rattle.set_model.specs.declared.calls.Call.{Call}
use Rattle.set_model.specs.declared.calls.Call.TheVariants.{Insert, Remove, Search}
use Rattle.set_model.specs.declared.calls.Reply.{Reply}
use Rattle.set_model.specs.declared.calls.Reply.TheVariants.{Yes, No, Full}
use Rattle.set_model.specs.Machine.{key_of}

-- whether the key is there after the call with this reply, where the call changed it
abbrev pub change_of : Call → Reply → ℕ → Option Bool
change_of (Insert added) Yes key = if added == key then Some true else None
change_of (Remove gone) Yes key = if gone == key then Some false else None
change_of call reply key = None

-- whether the last of these calls that changed the key added it; the latest stands first
abbrev pub was_added : List (Call × Reply) → ℕ → Bool
was_added [] key = false
was_added (latest ∷ before) key = unwrap_or (change_of latest.0 latest.1 key) (was_added before key)

-- the reply of a call that finds its key there or not
abbrev pub TellsPresence : Bool → Call → Reply → Type 0
TellsPresence present call Full = Unit {0}
TellsPresence present (Insert key) Yes = present ≡ false
TellsPresence present (Insert key) No = present ≡ true
TellsPresence present (Remove key) Yes = present ≡ true
TellsPresence present (Remove key) No = present ≡ false
TellsPresence present (Search key) Yes = present ≡ true
TellsPresence present (Search key) No = present ≡ false

-- each reply tells whether the last call before it that changed its key added that key
abbrev pub ExplainedAfter : List (Call × Reply) → List Call → List Reply → Type 0
ExplainedAfter before [] [] = Unit {0}
ExplainedAfter before (call ∷ calls) (reply ∷ replies) = TellsPresence (was_added before (key_of call)) call reply × ExplainedAfter ((call, reply) ∷ before) calls replies
ExplainedAfter before [] (reply ∷ replies) = ⊥
ExplainedAfter before (call ∷ calls) [] = ⊥

abbrev pub IsExplained : List Call → List Reply → Type 0
IsExplained calls replies = ExplainedAfter [] calls replies
