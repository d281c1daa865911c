-- Histories: the updates of a set in the order in which they took effect, and reads placed among them.
use Rattle.std.specs.Prelude.{◌≡◌, ℕ, ◌+◌, ◌≤◌, ◌==◌, Bool, true, not, MatchBool, if◌then◌else◌, List, [], ◌∷◌, map, length, take, count_by, sum_by}
use Rattle.set_model.specs.declared.calls.Call.{Call}
use Rattle.set_model.specs.declared.calls.Call.TheVariants.{Insert, Remove, Search}
use Rattle.set_model.specs.declared.calls.Reply.{Reply}
use Rattle.set_model.specs.declared.calls.Reply.TheVariants.{No}
use Rattle.set_model.specs.declared.calls.Update.{Update}
use Rattle.set_model.specs.Keys.{Keys, empty, size_of, sum_of}
use Rattle.set_model.specs.Machine.{answer_of, keys_after, reply_of, keys_after_all}

-- the call that the update was
abbrev pub call_of : Update → Call
call_of update = if update.added then Insert update.key else Remove update.key

-- the keys that the updates leave, from the empty set on
abbrev pub keys_of : List Update → Keys
keys_of updates = keys_after_all (map call_of updates) empty

-- each update is one that the machine answers yes, on the keys that those before it leave
abbrev pub IsLegalFrom : List Update → Keys → Type 0
IsLegalFrom [] keys = Unit {0}
IsLegalFrom (update ∷ updates) keys = (answer_of (call_of update) keys ≡ true) × IsLegalFrom updates (keys_after (call_of update) keys)

abbrev pub IsLegalHistory : List Update → Type 0
IsLegalHistory updates = IsLegalFrom updates empty

-- the machine's reply to a call that is made after the first `place` updates
abbrev pub reply_at : List Update → ℕ → Call → Reply
reply_at updates place call = reply_of call (keys_of (take place updates))

-- an answered call that changes nothing: a search, or an update that is answered no
abbrev pub IsRead : Call → Reply → Type 0
IsRead (Insert key) reply = reply ≡ No
IsRead (Remove key) reply = reply ≡ No
IsRead (Search key) reply = Unit {0}

-- a read that is placed behind the first `place` updates, and is answered from there
pub record IsLegalRead (updates : List Update) (place : ℕ) (call : Call) (reply : Reply) : Type 0 where
  pub within : place ≤ length updates
  pub read : IsRead call reply
  pub answered : reply ≡ reply_at updates place call

-- Of the updates of one key each is another than the one before: where the key is present the next one takes
-- it away, and where it is absent the next one adds it.
abbrev pub TakeTurns : ℕ → Bool → List Update → Type 0
TakeTurns key present [] = Unit {0}
TakeTurns key present (update ∷ updates) = MatchBool (update.key == key) ((update.added ≡ not present) × TakeTurns key update.added updates) (TakeTurns key present updates)

-- whether the last of the updates of the key added it, where `present` tells what was before them
abbrev pub last_added : ℕ → Bool → List Update → Bool
last_added key present [] = present
last_added key present (update ∷ updates) = last_added key (if update.key == key then update.added else present) updates

-- how many keys the updates added, and how many they took away
abbrev pub additions_in : List Update → ℕ
additions_in updates = count_by (λ update. update.added) updates

abbrev pub removals_in : List Update → ℕ
removals_in updates = count_by (λ update. not update.added) updates

-- the sum of the keys that they added, and of those that they took away
abbrev pub sum_added : List Update → ℕ
sum_added updates = sum_by (λ update. if update.added then update.key else 0) updates

abbrev pub sum_removed : List Update → ℕ
sum_removed updates = sum_by (λ update. if update.added then 0 else update.key) updates

-- what was added and not taken away is there
pub record IsBalanced (updates : List Update) : Type 0 where
  pub size : size_of (keys_of updates) + removals_in updates ≡ additions_in updates
  pub sum : sum_of (keys_of updates) + sum_removed updates ≡ sum_added updates
