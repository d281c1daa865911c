-- What a walk for a key does: hops, each from a node, cut into tries that start at the root.
use Rattle.std.specs.Prelude.{◌≡◌, ℕ, ◌+◌, ◌<◌, List, [], ◌∷◌, ◌++◌, Bool, true, false, Option, Some, None}
use Rattle.row_words.specs.Refs.{LinkParts}
use Rattle.record_rule.specs.Facts.{HasMark}
use Rattle.record_table.specs.declared.nodes.Held.{Held}
use Rattle.record_table.specs.declared.nodes.Node.{Node}
use Rattle.record_table.specs.declared.nodes.Node.TheVariants.{Root, At}
use Rattle.reclaim_api.specs.declared.holding.Holding.TheVariants.{Null, Held as Holds, Marked, Moved}
use Rattle.record_pieces.specs.Events.{Event, hopped, keyed, looked, unlinked, retired}
use Rattle.michael_list.specs.declared.spots.Spot.{Spot}
use Rattle.michael_list.specs.declared.spots.Spot.TheVariants.{Present, Absent}
use Rattle.michael_list.specs.declared.spots.Landing.{Landing}
use Rattle.michael_list.specs.declared.spots.Landing.TheVariants.{On, Stays, Restarts, Found}

-- the same link without flags
abbrev pub unmarked : LinkParts → LinkParts
unmarked link = record link { flags = 0 }

-- the loads of a record's key and of its link, the second where so many updates had taken effect
abbrev pub loads : Held → ℕ → LinkParts → ℕ → List Event
loads at found link seen = keyed at.target found ∷ looked (At at) 3 link seen ∷ []

-- a marked record is taken out behind its predecessor, whose link leads on from then as the record's did, and is retired; or the predecessor's link was another than it was known to be
pub data TakesOut (before : Node) (gone : Held) (link : LinkParts) : Bool → List Event → Type 0 where
  takes_out : TakesOut before gone link true (unlinked before 3 gone.target link None ∷ retired gone.target ∷ [])
  is_refused : (other : LinkParts) → TakesOut before gone link false (unlinked before 3 gone.target link (Some other) ∷ [])

module _ (key : ℕ) where
  -- what follows once a hop from a node reached a record, which it did after so many updates, and where that leaves the walk; and, where that is its end, the number of updates after which this was so
  pub data Looks (from : Node) (at : Held) (seen : ℕ) : Landing → Option ℕ → List Event → Type 0 where
    -- the record has a smaller key, the key, or a greater one: that the key is present is shown by the load of the record's link, and that it is absent by the hop
    passes : (found : ℕ) (link : LinkParts) (then : ℕ) → ¬ HasMark link → found < key → Looks from at seen (On at found) None (loads at found link then)
    finds : (found : ℕ) (link : LinkParts) (then : ℕ) → ¬ HasMark link → found ≡ key → Looks from at seen (Found (Present from at link)) (Some then) (loads at found link then)
    misses : (found : ℕ) (link : LinkParts) (then : ℕ) → ¬ HasMark link → key < found → Looks from at seen (Found (Absent from (Some at))) (Some seen) (loads at found link then)
    -- it has a mark, and this caller takes it out, or is late
    clears : (found : ℕ) (link : LinkParts) (then : ℕ) {fs : List Event} → HasMark link → TakesOut from at (unmarked link) true fs → Looks from at seen Stays None (loads at found link then ++ fs)
    is_late : (found : ℕ) (link : LinkParts) (then : ℕ) {fs : List Event} → HasMark link → TakesOut from at (unmarked link) false fs → Looks from at seen Restarts None (loads at found link then ++ fs)

  -- a hop from a node with what follows up to the next one, and where that leaves the walk; and, where that is its end, the number of updates after which this was so
  pub data Hops (from : Node) : Landing → Option ℕ → List Event → Type 0 where
    -- the node is the last one
    ends : (place seen : ℕ) → Hops from (Found (Absent from None)) (Some seen) (hopped place from 3 Null seen ∷ [])
    -- its link has another word than the one that this try knew
    meets_mark : (place : ℕ) (link : LinkParts) (seen : ℕ) → Hops from Restarts None (hopped place from 3 (Marked link) seen ∷ [])
    moves : (place found seen : ℕ) → Hops from Restarts None (hopped place from 3 (Moved found) seen ∷ [])
    -- a record is reached
    reaches : (place : ℕ) (at : Held) (seen : ℕ) {landing : Landing} {shown : Option ℕ} {fs : List Event} → Looks from at seen landing shown fs → Hops from landing shown (hopped place from 3 (Holds at) seen ∷ fs)

  -- so many hops, from the root to before this node; its rank is 0 for the root, and else the successor of its key
  pub data Walks (root : ℕ) : ℕ → Node → ℕ → List Event → Type 0 where
    starts : Walks root 0 (Root root) 0 []
    goes_on : {hops rank : ℕ} {from : Node} {at : Held} {found : ℕ} {es fs : List Event} → Walks root hops from rank es → Hops from (On at found) None fs → rank < found + 1
        → Walks root (hops + 1) (At at) (found + 1) (es ++ fs)
    stays : {hops rank : ℕ} {from : Node} {es fs : List Event} → Walks root hops from rank es → Hops from Stays None fs → Walks root (hops + 1) from rank (es ++ fs)
    restarts : {hops rank : ℕ} {from : Node} {es fs : List Event} → Walks root hops from rank es → Hops from Restarts None fs → Walks root (hops + 1) (Root root) 0 (es ++ fs)

  -- so many hops to where the key's place was found, as it was after so many updates, or to where one more was needed
  pub data Finds (root : ℕ) : ℕ → Option Spot → Option ℕ → List Event → Type 0 where
    found : {hops rank shown : ℕ} {from : Node} {spot : Spot} {es fs : List Event} → Walks root hops from rank es → Hops from (Found spot) (Some shown) fs → Finds root (hops + 1) (Some spot) (Some shown) (es ++ fs)
    needs_more : {hops rank : ℕ} {from : Node} {es : List Event} → Walks root hops from rank es → Finds root hops None None es
