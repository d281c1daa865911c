-- The set machine of one thread: what each call on a set of keys is answered, and which keys it leaves.
use Rattle.std.specs.Prelude.{◌≡◌, ℕ, Bool, true, false, not, List, [], ◌∷◌, count_by}
use Rattle.set_model.specs.declared.calls.Call.{Call}
use Rattle.set_model.specs.declared.calls.Call.TheVariants.{Insert, Remove, Search}
use Rattle.set_model.specs.declared.calls.Reply.{Reply}
use Rattle.set_model.specs.declared.calls.Reply.TheVariants.{Yes, No, Full}
use Rattle.set_model.specs.Keys.{Keys, contains, insert, remove}

-- the key that a call names
abbrev pub key_of : Call → ℕ
key_of (Insert key) = key
key_of (Remove key) = key
key_of (Search key) = key

abbrev pub is_insertion : Call → Bool
is_insertion (Insert key) = true
is_insertion (Remove key) = false
is_insertion (Search key) = false

-- whether the call is answered yes: an insertion where its key is absent, the others where it is present
abbrev pub answer_of : Call → Keys → Bool
answer_of (Insert key) keys = not (contains keys key)
answer_of (Remove key) keys = contains keys key
answer_of (Search key) keys = contains keys key

-- the keys that the call leaves
abbrev pub keys_after : Call → Keys → Keys
keys_after (Insert key) keys = insert keys key
keys_after (Remove key) keys = remove keys key
keys_after (Search key) keys = keys

abbrev pub reply_of_answer : Bool → Reply
reply_of_answer true = Yes
reply_of_answer false = No

abbrev pub reply_of : Call → Keys → Reply
reply_of call keys = reply_of_answer (answer_of call keys)

-- the reply to each call, in order
abbrev pub replies_of : List Call → Keys → List Reply
replies_of [] keys = []
replies_of (call ∷ calls) keys = reply_of call keys ∷ replies_of calls (keys_after call keys)

-- the keys that the calls leave
abbrev pub keys_after_all : List Call → Keys → Keys
keys_after_all [] keys = keys
keys_after_all (call ∷ calls) keys = keys_after_all calls (keys_after call keys)

-- how many of the calls insert
abbrev pub insertions_in : List Call → ℕ
insertions_in calls = count_by is_insertion calls

-- the reply is the machine's; of a call that is answered Full nothing is asked
abbrev pub IsLegalReply : Call → Reply → Keys → Type 0
IsLegalReply call Full keys = Unit {0}
IsLegalReply call Yes keys = Yes ≡ reply_of call keys
IsLegalReply call No keys = No ≡ reply_of call keys

-- the keys that the call with this reply leaves: one that is answered Full changes nothing
abbrev pub keys_after_reply : Call → Reply → Keys → Keys
keys_after_reply call Full keys = keys
keys_after_reply call Yes keys = keys_after call keys
keys_after_reply call No keys = keys_after call keys

-- each call whose reply isn't Full gets the machine's reply, and the others are passed over
abbrev pub IsLegalRun : List Call → List Reply → Keys → Type 0
IsLegalRun [] [] keys = Unit {0}
IsLegalRun (call ∷ calls) (reply ∷ replies) keys = IsLegalReply call reply keys × IsLegalRun calls replies (keys_after_reply call reply keys)
IsLegalRun [] (reply ∷ replies) keys = ⊥
IsLegalRun (call ∷ calls) [] keys = ⊥
