-- What the walker of a lazy list knows of the node at which it is, and of what it reached from there.
use Rattle.std.specs.Prelude.{◌≡◌, ℕ, ◌+◌, ◌-◌, ◌<◌, ◌≤◌, length, max, false, Option, Some, None, Result, Ok, Err}
use Rattle.record_memory.specs.declared.books.View.{View}
use Rattle.row_words.specs.Refs.{LinkParts}
use Rattle.record_rule.specs.Facts.{HasMark}
use Rattle.record_table.specs.declared.passes.Pass.{Pass}
use Rattle.record_table.specs.declared.nodes.Held.{Held}
use Rattle.record_table.specs.declared.nodes.Node.{Node}
use Rattle.record_table.specs.declared.nodes.Node.TheVariants.{At}
use Rattle.record_table.specs.Handles.{view, since}
use Rattle.record_table.specs.Nodes.{origin}
use Rattle.reclaim_api.specs.Holds.{IsElsewhere}
use Rattle.set_calls.specs.Knowing.{HasSeenKey}
use Rattle.list_calls.specs.Records.{target_of}
use Rattle.list_calls.specs.Standing.{rank, StandsAt, StandsBefore, IsBeyond}
use Rattle.lazy_list.specs.declared.spots.Spot.{Spot}
use Rattle.lazy_list.specs.declared.spots.Spot.TheVariants.{Present, Absent}
use Rattle.lazy_list.specs.declared.spots.Landing.{Landing}
use Rattle.lazy_list.specs.declared.spots.Landing.TheVariants.{On, Found}
use Rattle.lazy_list.specs.Places.{IsRemovalAt}

-- from which record the next hop goes, or where the walk ended
abbrev pub IsNext : Landing → Result Node Spot → Type 0
IsNext (On at found) next = next ≡ Ok (At at)
IsNext (Found spot) next = next ≡ Err spot

-- after how many updates a walk saw the spot where it ended, if it did: at its last look
abbrev pub seen_of : View → Option Spot → Option ℕ
seen_of v None = None
seen_of v (Some spot) = Some v.own.updates_seen

module _ {S R : Type 0} where
  -- since its guard began the caller has answered no call
  abbrev pub AnsweredNone : Pass S R → Type 0
  AnsweredNone p = (view p).front ≡ (since p).front

  -- the guard started behind all that the caller knows to come before
  abbrev pub StartsBehind : Pass S R → Type 0
  StartsBehind p = length (view p).front ≤ (view p).own.guard.start_updates

  -- The node is marked, and the key was absent behind the later of the guard's start and the removal that marked it
  abbrev pub HasSeenAtMark : Pass S R → Node → ℕ → Type 0
  HasSeenAtMark p node key = (m : ℕ) × IsRemovalAt (view p).seen_updates m (rank p node - 1) × HasSeenKey p key false (max (view p).own.guard.start_updates m)

  -- The key has its place behind this node, whose link was found to be this one, and isn't there: it was absent at the last look, or, where the node is marked, at its marking
  pub record ShowsAbsent (p : Pass S R) (key : ℕ) (before : Node) (link : LinkParts) : Type 0 where
    pub by_look : ¬ HasMark link → HasSeenKey p key false (view p).own.updates_seen
    pub by_mark : HasMark link → HasSeenAtMark p before key

  -- The next record of the list is reached by this link; where that has a greater key, this one was seen to be absent
  pub record HasReachedNext (p : Pass S R) (root key : ℕ) (before : Node) (link : LinkParts) (at : Held) : Type 0 where
    pub before_it : StandsBefore p root key before
    pub else : IsElsewhere (origin before) at.place
    pub stands : StandsAt p root (At at)
    pub rises : rank p before < rank p (At at)
    pub behind : StartsBehind p
    pub gap : key + 1 < rank p (At at) → ShowsAbsent p key before link

  -- where a walk for the key ended, and what it saw of the key there
  abbrev pub IsSpot : Pass S R → ℕ → ℕ → Spot → Type 0
  IsSpot p root key (Present before flags at) = StandsBefore p root key before × IsElsewhere (origin before) at.place × StandsAt p root (At at) × (rank p (At at) ≡ key + 1) × StartsBehind p
  IsSpot p root key (Absent before flags next) = StandsBefore p root key before × IsBeyond p root key next × ShowsAbsent p key before (record { flags = flags; target = target_of next })

  -- the rank of the node behind which a walk ended
  abbrev pub low_at : Pass S R → Spot → ℕ
  low_at p (Present before flags at) = rank p before
  low_at p (Absent before flags next) = rank p before

  abbrev pub low_of : Pass S R → Option Spot → ℕ
  low_of p None = 0
  low_of p (Some spot) = low_at p spot

  -- where a hop from a node of this rank left it
  abbrev pub IsLanding : Pass S R → ℕ → ℕ → ℕ → Landing → Type 0
  IsLanding p root key low (On at found) = StandsBefore p root key (At at) × (rank p (At at) ≡ found + 1) × (low < found + 1)
  IsLanding p root key low (Found spot) = IsSpot p root key spot × (low_at p spot ≡ low)
