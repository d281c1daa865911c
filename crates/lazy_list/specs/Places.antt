-- Where an absence is placed that a marked record shows: behind the later of a guard's start and the removal that marked it.
use Rattle.std.specs.Prelude.{◌≡◌, ℕ, zero, suc, ◌+◌, ◌-◌, ◌<◌, ◌==◌, ◌&&◌, if◌then◌else◌, nat_lt, max, List, [], ◌∷◌, length, take, drop, Bool, false, not}
use Rattle.set_model.specs.declared.calls.Update.{Update}
use Rattle.set_model.specs.Keys.{contains}
use Rattle.set_model.specs.Histories.{keys_of}
use Rattle.record_memory.specs.declared.books.View.{View}
use Rattle.row_words.specs.Refs.{LinkParts}
use Rattle.record_rule.specs.Facts.{At, HasMark}

-- the update at this position, from 1, is a removal of the key
abbrev pub IsRemovalAt : List Update → ℕ → ℕ → Type 0
IsRemovalAt updates m key = (0 < m) × ((u : Update) × At updates (m - 1) u × (u.key ≡ key) × (u.added ≡ false))

-- whether it is
abbrev pub is_removal : List Update → ℕ → Bool
is_removal [] key = false
is_removal (u ∷ us) key = u.key == key && not u.added

-- the first number from this one on that passes a test, or the one behind so many that don't
abbrev pub first_from : (ℕ → Bool) → ℕ → ℕ → ℕ
first_from test zero n = n
first_from test (suc more) n = if test n then n else first_from test more (n + 1)

-- the key is absent behind the later of the guard's start and a removal of the other key at this position, which is behind the front
abbrev pub is_absent_from : View → ℕ → ℕ → ℕ → Bool
is_absent_from v removed key m = is_removal (drop (m - 1) v.seen_updates) removed && (not (contains (keys_of (take (max v.own.guard.start_updates m) v.seen_updates)) key) && not (nat_lt (max v.own.guard.start_updates m) (length v.front)))

-- the first such place: which of them it is tells nothing, as a caller doesn't know by which removal a record was marked
abbrev pub place_of : View → ℕ → ℕ → ℕ
place_of v removed key = max v.own.guard.start_updates (first_from (is_absent_from v removed key) (length v.seen_updates) 1)

-- behind how many updates an absence is placed that a load of a node's link showed: without a mark, by that load, else by a removal of the node's key
pub record IsPlacedBy (v : View) (removed : ℕ) (link : LinkParts) (shown : ℕ) : Type 0 where
  pub by_look : ¬ HasMark link → shown ≡ v.own.updates_seen
  pub by_mark : HasMark link → (m : ℕ) × IsRemovalAt v.seen_updates m removed × (shown ≡ max v.own.guard.start_updates m)
