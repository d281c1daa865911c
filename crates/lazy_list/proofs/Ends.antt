-- The spot where a walk ended, by another name.
use Rattle.std.proofs.Common.{◌≡◌, ℕ, List, Some, subst}
use Rattle.record_table.specs.declared.passes.Pass.{Pass}
use Rattle.record_pieces.specs.Events.{Event}
use Rattle.lazy_list.specs.declared.spots.Spot.{Spot}
use Rattle.lazy_list.specs.Walks.{Finds}
use Rattle.lazy_list.specs.Knowing.{IsSpot, low_at}

-- the spot that a walk found is this one
pub is_spot : {S R : Type 0} (p : Pass S R) (root key : ℕ) {spot this : Spot} → spot ≡ this → IsSpot p root key spot → IsSpot p root key this
is_spot p root key same is = subst (λ (s : Spot). IsSpot p root key s) same is

pub finds_it : {S R : Type 0} (p : Pass S R) (root key made seen : ℕ) (es : List Event) {spot this : Spot} → spot ≡ this → Finds key root made (low_at p spot) (Some spot) (Some seen) es → Finds key root made (low_at p this) (Some this) (Some seen) es
finds_it p root key made seen es same finds = subst (λ (s : Spot). Finds key root made (low_at p s) (Some s) (Some seen) es) same finds
