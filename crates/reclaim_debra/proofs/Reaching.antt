-- What a caller under DEBRA holds once it loaded a link: its guard started when it announced itself.
use Rattle.std.proofs.Common.{◌≡◌, ℕ, ◌-◌, ◌<◌, ◌≤◌, length, get_or, Bool, true, refl, sym, ap, ◌∙◌, subst, Option, Some, None}
use Rattle.record_memory.specs.declared.books.View.{View}
use Rattle.row_words.specs.Refs.{RefParts, LinkParts}
use Rattle.row_words.specs.Packing.{link_in}
use Rattle.record_rule.specs.Facts.{mark_bit, ShapeFacts}
use Rattle.record_rule.specs.Guards.{holding}
use Rattle.record_rule.specs.Links.{Origin, target_of, ReachedLink}
use Rattle.record_table.specs.declared.passes.Pass.{Pass}
use Rattle.record_table.specs.Handles.{view, since}
use Rattle.record_table.specs.Nodes.{HasStarted, HoldsThere, reach_at}
use Rattle.reclaim_api.specs.Holds.{HasSeen, HoldsNothing, KeepsElse}
use Rattle.reclaim_api.specs.Bags.{bag_count}
use Rattle.reclaim_api.proofs.Reaching.{started_before, unmarked_target}
use Rattle.reclaim_api.proofs.Reaching as load
use Rattle.debra_facts.specs.Debra.{debra}
use Rattle.debra_facts.proofs.Lives.{reached_so}
use Rattle.reclaim_debra.specs.declared.bags.Bags.{Bags}
use Rattle.reclaim_debra.specs.LocalParts.{IsActive, IsGuarded, IsLocal}
use Rattle.reclaim_debra.specs.Stamped.{bags_stay}

module _ (s : ShapeFacts) {S R : Type 0} (p q : Pass S R) (o : Origin) (place n : ℕ) (told : ReachedLink s debra (view p) o 3 (reach_at p place) n (view q)) (same : since q ≡ since p) where
  abbrev led : Option RefParts
  led = target_of (link_in n)

  guard_is : (view q).own.guard ≡ holding (view p).own.guard place led
  guard_is = ap (λ (v : View). v.own.guard) told.view

  -- the local part
  pub reached_local : (l : Bags) (b c : Bool) → b ≡ true → c ≡ true → IsLocal l b (since p) (view p) → IsLocal l c (since q) (view q)
  reached_local l b c is then h = let active : IsActive (since p) (view p) = subst (λ (x : Bool). IsGuarded x (since p) (view p)) is h.guarded in record {
    bags = bags_stay l (view p) (view q) l.place (ap (λ (v : View). v.setup.records) told.view) (λ i k known u. ap (λ (v : View). get_or v.own.mine (i - 1) None) told.view ∙ known) (λ t. ap (λ (v : View). bag_count t v.own) told.view)
        (ap (λ (v : View). v.own.guard.readings) told.view) (ap (λ (v : View). v.own.guard.scan_place) told.view ∙ h.bags.place) h.bags;
    guarded = subst (λ (x : Bool). IsGuarded x (since q) (view q)) (sym then) record {
      active = ap (λ (v : View). v.own.guard.active) told.view ∙ active.active;
      started = subst (λ (x : View × ℕ). length x.0.own.steps < x.1) (λ k. (sym same k, (ap (λ (v : View). v.own.guard.start_step) (sym told.view)) k)) active.started;
      front = subst (λ (x : View × ℕ). length x.0.front ≤ x.1) (λ k. (sym same k, (ap (λ (v : View). v.own.guard.start_updates) (sym told.view)) k)) active.front;
      counted = subst (λ (v : View). v.own.caller < v.setup.callers) (sym told.view) active.counted;
    };
  }

  module _ (started : HasStarted p) (small : place < 8) where
    -- what was seen
    pub has_seen : (link : LinkParts) → link_in n ≡ link → HasSeen s place o p q link
    has_seen link e = subst (HasSeen s place o p q) e (load.has_seen s debra p q o place n led told same (view p).own.guard guard_is started (started_before s debra p q o place n led told) told.many small (λ h. refl) (link_in n) refl)

    -- it is held there
    pub holds_there : (r : RefParts) → mark_bit (link_in n) ≡ 0 → (link_in n).target ≡ Some r → HoldsThere q (record { place = place; target = r })
    holds_there r clear to = load.holds_there s debra p q o place n led told same (view p).own.guard guard_is started (started_before s debra p q o place n led told) told.many small (λ h. refl) r (unmarked_target (link_in n) r clear to)

    -- or nothing is
    pub nothing_there : target_of (link_in n) ≡ None → HoldsNothing place q
    nothing_there = load.holds_nothing s debra q (view p) o (reach_at p place) led n told (λ m t. reached_so m (view p).own.guard (reach_at p place) t)

    -- what is held and known elsewhere stays
    pub keeps_else : KeepsElse place p q
    keeps_else = load.keeps_else s debra p q o place n led told same (view p).own.guard guard_is started (started_before s debra p q o place n led told) told.many small (λ h. refl)
