-- From one hop to the next.
use Rattle.std.proofs.Common.{◌≡◌, ℕ, ◌+◌, List, ◌++◌, Ok, Err, sym, subst}
use Rattle.record_table.specs.declared.passes.Pass.{Pass}
use Rattle.record_table.specs.declared.nodes.Node.{Node}
use Rattle.record_table.specs.declared.nodes.Node.TheVariants.{At}
use Rattle.record_pieces.specs.Events.{Event}
use Rattle.list_calls.specs.Standing.{rank, StandsBefore}
use Rattle.lazy_list.specs.declared.spots.Spot.{Spot}
use Rattle.lazy_list.specs.declared.spots.Landing.{Landing}
use Rattle.lazy_list.specs.declared.spots.Landing.TheVariants.{On, Found}
use Rattle.lazy_list.specs.Walks.{Hops, Walks, goes_on}
use Rattle.lazy_list.specs.Knowing.{IsLanding, IsNext, IsSpot, low_at}

module _ {S R : Type 0} (q : Pass S R) (root key : ℕ) where
  -- it goes on from where a hop left it
  pub next_from : (before node : Node) (low made seen : ℕ) (landing : Landing) (es fs : List Event) → IsLanding q root key low landing → IsNext landing (Ok node) → Walks key root made before low es → Hops key before seen landing fs
      → StandsBefore q root key node × Walks key root (made + 1) node (rank q node) (es ++ fs)
  next_from before node low made seen (On at found) es fs lands next walks hops =
      let is : At at ≡ node = cc in
      let walked = goes_on walks hops lands.2 in
      subst (λ (n : Node). StandsBefore q root key n × Walks key root (made + 1) n (rank q n) (es ++ fs)) is (lands.0, subst (λ k. Walks key root (made + 1) (At at) k (es ++ fs)) (sym lands.1) walked)
  next_from before node low made seen (Found spot) es fs lands next walks hops = let no_way : ⊥ = cc in absurd no_way

  -- or ends there
  pub ends_at : (before : Node) (spot : Spot) (low seen : ℕ) (landing : Landing) (fs : List Event) → IsLanding q root key low landing → IsNext landing (Err spot) → Hops key before seen landing fs
      → IsSpot q root key spot × (low_at q spot ≡ low) × Hops key before seen (Found spot) fs
  ends_at before spot low seen (On at found) fs lands next hops = let no_way : ⊥ = cc in absurd no_way
  ends_at before spot low seen (Found found) fs lands next hops =
      let is : found ≡ spot = cc in
      (subst (λ (s : Spot). IsSpot q root key s) is lands.0, subst (λ (s : Spot). low_at q s ≡ low) is lands.1, subst (λ (s : Spot). Hops key before seen (Found s) fs) is hops)
