-- What ties a list to its history, and what a load of a link shows of it.
use Rattle.std.specs.Prelude.{◌≡◌, ℕ, ◌+◌, ◌-◌, ◌%◌, ◌<◌, ◌≤◌, ◌↔◌, ◌==◌, List, length, count_by, Bool, true, false, IsTrue, Option, Some, None, MatchOption}
use Rattle.set_model.specs.declared.calls.Update.{Update}
use Rattle.set_model.specs.Keys.{contains}
use Rattle.set_model.specs.Histories.{keys_of, removals_in}
use Rattle.record_memory.specs.declared.books.Setup.{Setup}
use Rattle.row_words.specs.Refs.{RefParts}
use Rattle.record_rule.specs.Inputs.{ShapeCell, hidden, root, linked, out, ShapeInput, Trace}
use Rattle.record_rule.specs.Facts.{At, link_at, key_at, mark_bit, HasMark, Sight}

-- a walk goes along word 3, and a record without a mark has its key in the set
abbrev pub list_leads : ℕ → List ℕ → Bool
list_leads f body = f == 3

abbrev pub list_present : List ℕ → Bool
list_present body = mark_bit (link_at body 3) == 0

-- a linked record without a mark has the key
abbrev pub IsPresent : List ShapeCell → ℕ → Type 0
IsPresent cells k = (i generation m : ℕ) × (body : List ℕ) × At cells i (linked generation body m) × (¬ HasMark (link_at body 3)) × (key_at body ≡ k)

-- a linked or taken-out record with a marked link; one that was taken out is at this number or a later one
pub data IsMarked (cells : List ShapeCell) (i : ℕ) (body : List ℕ) (m start : ℕ) : Type 0 where
  still : (generation : ℕ) → At cells i (linked generation body m) → HasMark (link_at body 3) → IsMarked cells i body m start
  gone : (generation n : ℕ) → At cells i (out generation body m n) → start ≤ n → IsMarked cells i body m start

abbrev pub is_marked_cell : ShapeCell → Bool
is_marked_cell hidden = false
is_marked_cell (root generation body m) = false
is_marked_cell (linked generation body m) = mark_bit (link_at body 3) == 1
is_marked_cell (out generation body m n) = false

pub record ListTold (x : ShapeInput) (h : Trace) : Type 0 where
  -- the keys present are those that the updates leave
  pub keys : (k : ℕ) → IsTrue (contains (keys_of h.updates) k) ↔ IsPresent x.cells k
  -- each marked record has the position, from 1, of the removal that marked it
  pub marks : (i m : ℕ) (body : List ℕ) → IsMarked x.cells i body m 0 → (0 < m) × ((u : Update) × At h.updates (m - 1) u × (u.key ≡ key_at body) × (u.added ≡ false))
  -- and of that one alone: no other record has its position
  pub alone : (i j m : ℕ) (body other : List ℕ) → IsMarked x.cells i body m 0 → IsMarked x.cells j other m 0 → i ≡ j
  -- each removal marked a record, which was taken out or is linked still
  pub balance : removals_in h.updates ≡ length x.taken_out + count_by is_marked_cell x.cells

-- no key of this list between these ranks is in the set after the updates; without a high rank, none above the low one
abbrev pub NoneWithin : Setup → ℕ → ℕ → Option ℕ → List Update → Type 0
NoneWithin setup home low high updates = (k : ℕ) → k % setup.roots ≡ home → low < k + 1 → MatchOption high (Unit {0}) (λ r. k + 1 < r) → contains (keys_of updates) k ≡ false

abbrev pub rank_of : Option (List ℕ) → Option ℕ
rank_of None = None
rank_of (Some body) = Some (key_at body + 1)

-- the node's rank and its list, where the node is this root or a record with this body
abbrev pub rank_at : Option ℕ → List ℕ → ℕ
rank_at None body = key_at body + 1
rank_at (Some n) body = 0

abbrev pub home_at : Setup → Option ℕ → List ℕ → ℕ
home_at setup None body = key_at body % setup.roots
home_at setup (Some n) body = n

-- the link's target was seen, or the link has none
abbrev pub IsTargetSeen : Option RefParts → Option (List ℕ) → Type 0
IsTargetSeen None b = b ≡ None
IsTargetSeen (Some t) b = (body : List ℕ) × (b ≡ Some body)

-- what a load of a link shows of the set at that step; `flags` says which flags a link may have
pub record ListShown (flags : ℕ → Type 0) (setup : Setup) (y : Sight) (updates : List Update) : Type 0 where
  pub flagged : flags (link_at y.body 3).flags
  -- no key is present between the node and the link's target
  pub between : ¬ HasMark (link_at y.body 3) → y.field ≡ 3 → IsTargetSeen (link_at y.body 3).target y.target → NoneWithin setup (home_at setup y.node y.body) (rank_at y.node y.body) (rank_of y.target) updates
  -- what the link leads to stands in the same list, behind the node
  pub up : ¬ HasMark (link_at y.body 3) → y.field ≡ 3 → (b : List ℕ) → y.target ≡ Some b → (key_at b % setup.roots ≡ home_at setup y.node y.body) × (rank_at y.node y.body < key_at b + 1)
  -- the node's key is
  pub present : ¬ HasMark (link_at y.body 3) → y.node ≡ None → contains (keys_of updates) (key_at y.body) ≡ true
