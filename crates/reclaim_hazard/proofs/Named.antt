-- A store in the own word of a place: what is held and known elsewhere stays, and the place holds nothing.
use Rattle.std.proofs.Common.{◌≡◌, ◌≢◌, ℕ, ◌<◌, length, Some, None, sym, ap, ◌∙◌, subst}
use Rattle.atomic_table.proofs.Lists.{set_else}
use Rattle.record_memory.specs.declared.books.View.{View}
use Rattle.record_rule.specs.Facts.{At}
use Rattle.record_rule.specs.World.{StartsWith}
use Rattle.record_rule.specs.Links.{note_in}
use Rattle.record_rule.proofs.Rebuilt.{starts_itself}
use Rattle.record_table.specs.declared.passes.Pass.{Pass}
use Rattle.record_table.specs.declared.nodes.Node.{Node}
use Rattle.record_table.specs.declared.nodes.Node.TheVariants.{Root, At as AtPlace}
use Rattle.record_table.specs.Handles.{view, since}
use Rattle.record_table.specs.Nodes.{origin, HoldsNode}
use Rattle.reclaim_api.specs.Holds.{IsElsewhere, KeepsElse}
use Rattle.reclaim_api.proofs.Keeping.{keeps_by}
use Rattle.reclaim_hazard.specs.Steps.{stored_own}

module _ {S R : Type 0} (p q : Pass S R) (same : since q ≡ since p) (place value found : ℕ) (is : view q ≡ stored_own (view p) place value found) where
  pub keeps_store : KeepsElse place p q
  keeps_store = keeps_by p q same (λ other. other ≢ place) (λ other f. other ≢ place) (ap (λ (v : View). v.setup) is)
      (λ h. record {
        step = ap (λ (v : View). v.own.guard.start_step) is;
        updates = ap (λ (v : View). v.own.guard.start_updates) is;
        holds = λ other r ne at. subst (λ (v : View). At v.own.guard.holds other (Some r)) (sym is) (set_else (view p).own.guard.holds place other None ne ∙ at);
      })
      (λ other f m ne at. subst (λ (v : View). At (note_in v.own.notes other).words f (Some m)) (sym is) at)
      (λ other ne. ap (λ (v : View). length (note_in v.own.notes other).words) is)
      (λ other ne. ap (λ (v : View). (note_in v.own.notes other).reached_at) is)
      (subst (λ (v : View). StartsWith v.seen_updates (view p).seen_updates) (sym is) (starts_itself (view p).seen_updates))

-- a node elsewhere is held still
pub node_still : {S R : Type 0} (p q : Pass S R) (place : ℕ) (from : Node) → KeepsElse place p q → (view q).setup ≡ (view p).setup → IsElsewhere (origin from) place → HoldsNode p from → HoldsNode q from
node_still p q place (Root n) keeps setup else h = subst (λ k. n < k.roots) (sym setup) h
node_still p q place (AtPlace held) keeps setup else h = keeps.holds held (λ e. else (sym e)) h
