-- From one hop to the next.
use Rattle.std.proofs.Common.{◌≡◌, ℕ, ◌+◌, ◌<◌, List, ◌++◌, Ok, Err, Some, sym, refl, subst, arith}
use Rattle.record_table.specs.declared.passes.Pass.{Pass}
use Rattle.record_table.specs.declared.nodes.Node.{Node}
use Rattle.record_table.specs.declared.nodes.Node.TheVariants.{Root, At}
use Rattle.record_table.specs.Handles.{view}
use Rattle.record_pieces.specs.Events.{Event}
use Rattle.michael_list.specs.declared.spots.Spot.{Spot}
use Rattle.michael_list.specs.declared.spots.Landing.{Landing}
use Rattle.michael_list.specs.declared.spots.Landing.TheVariants.{On, Stays, Restarts, Found}
use Rattle.michael_list.specs.Walks.{Hops, Walks, goes_on, stays, restarts}
use Rattle.list_calls.specs.Standing.{rank, StandsBefore}
use Rattle.michael_list.specs.Knowing.{IsLanding, IsNext, IsSpot, shown_at, shown_by}

module _ {S R : Type 0} (q : Pass S R) (root key : ℕ) (has : root < (view q).setup.roots) where
  -- a walk starts at the root
  pub at_root : StandsBefore q root key (Root root)
  at_root = record { stands = record { there = has; keyed = tt; home = refl }; below = omega arith }

  -- it goes on from where a hop left it
  pub next_from : (before node : Node) (low made : ℕ) (landing : Landing) (es fs : List Event) → IsLanding q root key before low landing → IsNext root before landing (Ok node) → Walks key root made before low es → Hops key before landing (shown_by (view q) landing) fs
      → StandsBefore q root key node × Walks key root (made + 1) node (rank q node) (es ++ fs)
  next_from before node low made (On at found) es fs lands next walks hops =
      let is : At at ≡ node = cc in
      let walked = goes_on walks hops lands.2 in
      subst (λ (n : Node). StandsBefore q root key n × Walks key root (made + 1) n (rank q n) (es ++ fs)) is (lands.0, subst (λ k. Walks key root (made + 1) (At at) k (es ++ fs)) (sym lands.1) walked)
  next_from before node low made Stays es fs lands next walks hops =
      let is : before ≡ node = cc in
      subst (λ (n : Node). StandsBefore q root key n × Walks key root (made + 1) n (rank q n) (es ++ fs)) is (lands.0, subst (λ k. Walks key root (made + 1) before k (es ++ fs)) (sym lands.1) (stays walks hops))
  next_from before node low made Restarts es fs lands next walks hops =
      let is : Root root ≡ node = cc in
      subst (λ (n : Node). StandsBefore q root key n × Walks key root (made + 1) n (rank q n) (es ++ fs)) is (at_root, restarts walks hops)
  next_from before node low made (Found spot) es fs lands next walks hops = let no_way : ⊥ = cc in absurd no_way

  -- or ends there
  pub ends_at : (before : Node) (spot : Spot) (low : ℕ) (landing : Landing) (fs : List Event) → IsLanding q root key before low landing → IsNext root before landing (Err spot)
      → Hops key before landing (shown_by (view q) landing) fs → IsSpot q root key spot × Hops key before (Found spot) (Some (shown_at (view q) spot)) fs
  ends_at before spot low (On at found) fs lands next hops = let no_way : ⊥ = cc in absurd no_way
  ends_at before spot low Stays fs lands next hops = let no_way : ⊥ = cc in absurd no_way
  ends_at before spot low Restarts fs lands next hops = let no_way : ⊥ = cc in absurd no_way
  ends_at before spot low (Found found) fs lands next hops =
      let is : found ≡ spot = cc in
      (subst (λ (s : Spot). IsSpot q root key s) is lands, subst (λ (s : Spot). Hops key before (Found s) (Some (shown_at (view q) s)) fs) is hops)
