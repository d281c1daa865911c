-- What a walk for a key does: hops from the root, each along a node's link, marked or not, to the next record, whose key is loaded.
use Rattle.std.specs.Prelude.{◌≡◌, ℕ, ◌+◌, ◌<◌, List, [], ◌∷◌, ◌++◌, Option, Some, None}
use Rattle.record_table.specs.declared.nodes.Held.{Held}
use Rattle.record_table.specs.declared.nodes.Node.{Node}
use Rattle.record_table.specs.declared.nodes.Node.TheVariants.{Root, At}
use Rattle.reclaim_api.specs.declared.following.Reached.TheVariants.{Null, Held as Holds}
use Rattle.record_pieces.specs.Events.{Event, followed, keyed}
use Rattle.lazy_list.specs.declared.spots.Spot.{Spot}
use Rattle.lazy_list.specs.declared.spots.Spot.TheVariants.{Present, Absent}
use Rattle.lazy_list.specs.declared.spots.Landing.{Landing}
use Rattle.lazy_list.specs.declared.spots.Landing.TheVariants.{On, Found}

module _ (key : ℕ) where
  -- what follows once a hop from a node reached a record, by a link with these flags: its key is loaded, and is smaller, the key, or greater
  pub data Looks (from : Node) (flags : ℕ) (at : Held) : Landing → List Event → Type 0 where
    passes : (found : ℕ) → found < key → Looks from flags at (On at found) (keyed at.target found ∷ [])
    finds : (found : ℕ) → found ≡ key → Looks from flags at (Found (Present from flags at)) (keyed at.target found ∷ [])
    misses : (found : ℕ) → key < found → Looks from flags at (Found (Absent from flags (Some at))) (keyed at.target found ∷ [])

  -- a hop from a node, whose link was loaded when so many updates had taken effect, and where that leaves the walk
  pub data Hops (from : Node) (seen : ℕ) : Landing → List Event → Type 0 where
    ends : (place flags : ℕ) → Hops from seen (Found (Absent from flags None)) (followed place from 3 (Null flags) seen ∷ [])
    reaches : (place flags : ℕ) (at : Held) {landing : Landing} {fs : List Event} → Looks from flags at landing fs → Hops from seen landing (followed place from 3 (Holds at flags) seen ∷ fs)

  module _ (root : ℕ) where
    -- so many hops, from the root to before this node; its rank is 0 for the root, and else the successor of its key
    pub data Walks : ℕ → Node → ℕ → List Event → Type 0 where
      starts : Walks 0 (Root root) 0 []
      goes_on : {hops rank found seen : ℕ} {from : Node} {at : Held} {es fs : List Event} → Walks hops from rank es → Hops from seen (On at found) fs → rank < found + 1
          → Walks (hops + 1) (At at) (found + 1) (es ++ fs)

    -- so many hops to where the key's place was found, behind a node of this rank, by a look when so many updates had taken effect; or to where one more was needed
    pub data Finds : ℕ → ℕ → Option Spot → Option ℕ → List Event → Type 0 where
      found : {hops rank seen : ℕ} {from : Node} {spot : Spot} {es fs : List Event} → Walks hops from rank es → Hops from seen (Found spot) fs → Finds (hops + 1) rank (Some spot) (Some seen) (es ++ fs)
      needs_more : {hops rank : ℕ} {from : Node} {es : List Event} → Walks hops from rank es → Finds hops 0 None None es
