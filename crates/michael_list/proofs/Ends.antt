-- The spot where a walk ended, by another name.
use Rattle.std.proofs.Common.{◌≡◌, ℕ, List, Some, subst}
use Rattle.record_memory.specs.declared.books.View.{View}
use Rattle.record_table.specs.declared.passes.Pass.{Pass}
use Rattle.record_pieces.specs.Events.{Event}
use Rattle.michael_list.specs.declared.spots.Spot.{Spot}
use Rattle.michael_list.specs.Walks.{Finds}
use Rattle.michael_list.specs.Knowing.{IsSpot, shown_at}

-- the spot that a walk found is this one
pub is_spot : {S R : Type 0} (p : Pass S R) (root key : ℕ) {spot this : Spot} → spot ≡ this → IsSpot p root key spot → IsSpot p root key this
is_spot p root key same is = subst (λ (s : Spot). IsSpot p root key s) same is

pub finds_it : (v : View) (root key made : ℕ) (es : List Event) {spot this : Spot} → spot ≡ this → Finds key root made (Some spot) (Some (shown_at v spot)) es → Finds key root made (Some this) (Some (shown_at v this)) es
finds_it v root key made es same finds = subst (λ (s : Spot). Finds key root made (Some s) (Some (shown_at v s)) es) same finds
