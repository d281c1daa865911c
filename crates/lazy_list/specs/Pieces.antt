-- What each call of the lazy list does, event by event: tries, each a walk and what comes of it, and then the answer.
use Rattle.std.specs.Prelude.{◌≡◌, ℕ, ◌+◌, ◌-◌, ◌≤◌, max, List, [], ◌∷◌, ◌++◌, true, false, Option, Some, None}
use Rattle.set_model.specs.declared.calls.Update.{Update}
use Rattle.set_model.specs.declared.calls.Call.TheVariants.{Insert, Remove, Search}
use Rattle.set_model.specs.declared.calls.InsertAnswer.{InsertAnswer}
use Rattle.set_model.specs.declared.calls.InsertAnswer.TheVariants.{Done, Full, Again}
use Rattle.set_model.specs.declared.calls.LookAnswer.{LookAnswer}
use Rattle.set_model.specs.declared.calls.LookAnswer.TheVariants.{Done as Looked, Again as LookAgain}
use Rattle.row_words.specs.Refs.{RefParts, LinkParts}
use Rattle.row_words.specs.Packing.{packed_ref}
use Rattle.record_rule.specs.Facts.{HasMark, HasLock}
use Rattle.record_table.specs.declared.nodes.Held.{Held}
use Rattle.record_table.specs.declared.nodes.Node.{Node}
use Rattle.record_table.specs.declared.nodes.Node.TheVariants.{At}
use Rattle.record_pieces.specs.Events.{Event, looked, exchanged, stored_own, stored_link, published_locked, unlinked_locked, retired, refused, placed}
use Rattle.list_facts.specs.Steps.{marked_with}
use Rattle.list_calls.specs.Records.{target_of, back, HasRecord}
use Rattle.lazy_list.specs.declared.spots.Spot.TheVariants.{Present, Absent}
use Rattle.lazy_list.specs.Locking.{locked_with, unlocked, link_to, locked_to}
use Rattle.lazy_list.specs.Walks.{Finds}
use Rattle.lazy_list.specs.Places.{IsRemovalAt}

-- a link with these flags is marked or locked, as a walk found it
abbrev pub HasFlags : ℕ → Type 0
HasFlags flags = ¬ (flags ≡ 0)

-- a try to lock a node's link, which had no flags and led there; it was another where it was refused
abbrev pub tries_lock : Node → Option RefParts → Option LinkParts → List Event
tries_lock node target refusal = exchanged node 3 (link_to target) (locked_to target) None refusal ∷ []

-- what a walk found can't be locked: it has flags, or the try was refused
pub data FailsToLock (node : Node) : ℕ → Option RefParts → List Event → Type 0 where
  has_flags : {flags : ℕ} {target : Option RefParts} → HasFlags flags → FailsToLock node flags target []
  is_another : {target : Option RefParts} (other : LinkParts) → FailsToLock node 0 target (tries_lock node target (Some other))

-- that lock is taken off
abbrev pub takes_lock_off : Node → Option RefParts → List Event
takes_lock_off node target = stored_link node 3 (locked_to target) (link_to target) None ∷ []

-- the record is filled, and linked behind a node whose link was locked
abbrev pub links_locked : ℕ → Node → Option Held → RefParts → List Event
links_locked key before next own = stored_own own 4 key ∷ stored_own own 3 (packed_ref (target_of next)) ∷ published_locked before 3 (locked_to (target_of next)) own (Some (Insert key)) ∷ []

-- the lock of a record becomes its mark, which decides the removal of its key
abbrev pub marks_locked : ℕ → Held → LinkParts → List Event
marks_locked key at link = stored_link (At at) 3 (locked_with link) (marked_with link) (Some (Remove key)) ∷ []

-- a marked record is taken out behind a node whose link was locked and leads on from then as the record's does, and is retired
abbrev pub takes_out_locked : Node → Held → LinkParts → List Event
takes_out_locked before gone link = unlinked_locked before 3 (locked_to (Some gone.target)) gone.target link ∷ retired gone.target ∷ []

module _ (root key : ℕ) where
  -- a try of an insertion that failed: the record with the key is marked; or its predecessor's link is marked or locked; or that link wasn't the same any more
  pub data FailsToInsert (own : Option RefParts) : Option RefParts → ℕ → List Event → Type 0 where
    is_marked : {hops seen flags low : ℕ} {before : Node} {at : Held} {fs : List Event} (link : LinkParts) (then : ℕ) → Finds key root hops low (Some (Present before flags at)) (Some seen) fs → HasMark link
        → FailsToInsert own own hops (fs ++ looked (At at) 3 link then ∷ [])
    is_late : {hops seen flags low : ℕ} {hand : Option RefParts} {r : RefParts} {before : Node} {next : Option Held} {fs gs ls : List Event} → Finds key root hops low (Some (Absent before flags next)) (Some seen) fs → HasRecord r hand gs → own ≡ Some r → FailsToLock before flags (target_of next) ls
        → FailsToInsert own hand hops (fs ++ gs ++ ls)

  -- tries that failed, after so many hops, and the own record that the call has from them
  pub data Insertings : ℕ → Option RefParts → List Event → Type 0 where
    none : Insertings 0 None []
    more : {made hops : ℕ} {hand own : Option RefParts} {es fs : List Event} → Insertings made hand es → FailsToInsert own hand hops fs → Insertings (made + hops) own (es ++ fs)

  -- a try of a removal that failed
  pub data FailsToRemove : ℕ → List Event → Type 0 where
    -- the record isn't marked, and its predecessor's link is marked or locked; or that has no flags, and the record's is locked
    is_taken : {hops seen flags low : ℕ} {before : Node} {at : Held} {fs : List Event} (link : LinkParts) (then : ℕ) → Finds key root hops low (Some (Present before flags at)) (Some seen) fs → HasFlags flags → ¬ HasMark link → FailsToRemove hops (fs ++ looked (At at) 3 link then ∷ [])
    is_locked : {hops seen low : ℕ} {before : Node} {at : Held} {fs : List Event} (link : LinkParts) (then : ℕ) → Finds key root hops low (Some (Present before 0 at)) (Some seen) fs → HasLock link → ¬ HasMark link → FailsToRemove hops (fs ++ looked (At at) 3 link then ∷ [])
    -- the predecessor's wasn't the same any more; or the record's, and then the predecessor's lock is taken off
    is_late : {hops seen low : ℕ} {before : Node} {at : Held} {fs : List Event} (other link : LinkParts) (then : ℕ) → Finds key root hops low (Some (Present before 0 at)) (Some seen) fs → link.flags ≡ 0
        → FailsToRemove hops (fs ++ looked (At at) 3 link then ∷ [] ++ tries_lock before (Some at.target) (Some other))
    is_second : {hops seen low : ℕ} {before : Node} {at : Held} {fs : List Event} (other link : LinkParts) (then : ℕ) → Finds key root hops low (Some (Present before 0 at)) (Some seen) fs → link.flags ≡ 0
        → FailsToRemove hops (fs ++ looked (At at) 3 link then ∷ [] ++ tries_lock before (Some at.target) None ++ tries_lock (At at) link.target (Some other) ++ takes_lock_off before (Some at.target))

  pub data Removings : ℕ → List Event → Type 0 where
    none : Removings 0 []
    more : {made hops : ℕ} {es fs : List Event} → Removings made es → FailsToRemove hops fs → Removings (made + hops) (es ++ fs)

  -- an insertion within this budget of hops
  pub data Inserts (budget : ℕ) : InsertAnswer → List Event → Type 0 where
    adds : {made hops seen low : ℕ} {hand : Option RefParts} {own : RefParts} {before : Node} {next : Option Held} {es fs gs : List Event} → Insertings made hand es → Finds key root hops low (Some (Absent before 0 next)) (Some seen) fs → HasRecord own hand gs
        → made + hops ≤ budget → Inserts budget (Done true) (es ++ fs ++ gs ++ tries_lock before (target_of next) None ++ links_locked key before next own)
    has_it : {made hops seen flags low : ℕ} {hand : Option RefParts} {before : Node} {at : Held} {es fs : List Event} (link : LinkParts) (then : ℕ) → Insertings made hand es → Finds key root hops low (Some (Present before flags at)) (Some seen) fs → ¬ HasMark link
        → made + hops ≤ budget → Inserts budget (Done false) (es ++ fs ++ looked (At at) 3 link then ∷ [] ++ back hand ++ placed (Insert key) false then ∷ [])
    is_full : {made hops seen flags found low : ℕ} {before : Node} {next : Option Held} {es fs : List Event} → Insertings made None es → Finds key root hops low (Some (Absent before flags next)) (Some seen) fs
        → made + hops ≤ budget → Inserts budget (Full found) (es ++ fs ++ refused found ∷ [])
    again : {made hops low : ℕ} {hand : Option RefParts} {es fs : List Event} → Insertings made hand es → Finds key root hops low None None fs → made + hops ≡ budget → Inserts budget (Again budget) (es ++ fs ++ back hand)

  -- Where an absence was seen, and behind how many updates it is placed: where a walk ended behind a node without a mark, by its last look; else behind the later of the guard's start and the removal that marked the node behind which it ended, or the record with the key
  pub data Lacks (start : ℕ) (updates : List Update) : ℕ → ℕ → List Event → Type 0 where
    by_gap : {hops low seen flags : ℕ} {before : Node} {next : Option Held} {fs : List Event} → Finds key root hops low (Some (Absent before flags next)) (Some seen) fs → ¬ HasMark (record { flags = flags; target = target_of next }) → Lacks start updates hops seen fs
    by_marked_gap : {hops low seen flags : ℕ} {before : Node} {next : Option Held} {fs : List Event} (m : ℕ) → Finds key root hops low (Some (Absent before flags next)) (Some seen) fs → HasMark (record { flags = flags; target = target_of next })
        → IsRemovalAt updates m (low - 1) → Lacks start updates hops (max start m) fs
    by_mark : {hops low seen flags : ℕ} {before : Node} {at : Held} {fs : List Event} (m : ℕ) (link : LinkParts) (then : ℕ) → Finds key root hops low (Some (Present before flags at)) (Some seen) fs → HasMark link
        → IsRemovalAt updates m key → Lacks start updates hops (max start m) (fs ++ looked (At at) 3 link then ∷ [])

  -- a removal within a guard that started behind so many updates, of which these had taken effect
  pub data Removes (start : ℕ) (updates : List Update) (budget : ℕ) : LookAnswer → List Event → Type 0 where
    takes_away : {made hops seen low : ℕ} {before : Node} {at : Held} {es fs : List Event} (link : LinkParts) (then : ℕ) → Removings made es → Finds key root hops low (Some (Present before 0 at)) (Some seen) fs → link.flags ≡ 0
        → made + hops ≤ budget
        → Removes start updates budget (Looked true) (es ++ fs ++ looked (At at) 3 link then ∷ [] ++ tries_lock before (Some at.target) None ++ tries_lock (At at) link.target None ++ marks_locked key at link ++ takes_out_locked before at (unlocked link))
    lacks_it : {made hops shown : ℕ} {es fs : List Event} → Removings made es → Lacks start updates hops shown fs → made + hops ≤ budget → Removes start updates budget (Looked false) (es ++ fs ++ placed (Remove key) false shown ∷ [])
    again : {made hops low : ℕ} {es fs : List Event} → Removings made es → Finds key root hops low None None fs → made + hops ≡ budget → Removes start updates budget (LookAgain budget) (es ++ fs)

  -- a search, which has one try
  pub data Searches (start : ℕ) (updates : List Update) (budget : ℕ) : LookAnswer → List Event → Type 0 where
    sees : {hops seen flags low : ℕ} {before : Node} {at : Held} {fs : List Event} (link : LinkParts) (then : ℕ) → Finds key root hops low (Some (Present before flags at)) (Some seen) fs → ¬ HasMark link
        → hops ≤ budget → Searches start updates budget (Looked true) (fs ++ looked (At at) 3 link then ∷ [] ++ placed (Search key) true then ∷ [])
    lacks_it : {hops shown : ℕ} {fs : List Event} → Lacks start updates hops shown fs → hops ≤ budget → Searches start updates budget (Looked false) (fs ++ placed (Search key) false shown ∷ [])
    again : {low : ℕ} {fs : List Event} → Finds key root budget low None None fs → Searches start updates budget (LookAgain budget) fs
