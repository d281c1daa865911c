-- What a caller without reclamation holds once it loaded a link: its guard started with its first load or before.
use Rattle.std.proofs.Common.{◌≡◌, ℕ, ◌+◌, ◌<◌, ◌≤◌, length, Bool, true, false, refl, ap, ◌∙◌, subst, arith, Some, None}
use Rattle.record_memory.specs.declared.books.View.{View}
use Rattle.record_memory.specs.declared.books.Guard.{Guard}
use Rattle.row_words.specs.Refs.{RefParts, LinkParts}
use Rattle.row_words.specs.Packing.{link_in}
use Rattle.record_rule.specs.Facts.{mark_bit, Moment, ShapeFacts}
use Rattle.record_rule.specs.Guards.{started_if, holding}
use Rattle.record_rule.specs.Links.{Origin, target_of, ReachedLink}
use Rattle.record_table.specs.declared.passes.Pass.{Pass}
use Rattle.record_table.specs.Handles.{view, since}
use Rattle.record_table.specs.Nodes.{HasStarted, HoldsThere, is_first, reach_at}
use Rattle.record_table.proofs.Started.{later_load}
use Rattle.reclaim_api.specs.Holds.{HasSeen, HoldsNothing, KeepsElse}
use Rattle.reclaim_api.proofs.Reaching.{start_seen, unmarked_target, started_later}
use Rattle.reclaim_api.proofs.Reaching as load
use Rattle.cover_facts.specs.Keeping.{none}
use Rattle.cover_facts.proofs.KeepingLaws.{many_then, none_laws}

module _ (s : ShapeFacts) {S R : Type 0} (p q : Pass S R) (o : Origin) (place n : ℕ) (told : ReachedLink s none (view p) o 3 (reach_at p place) n (view q)) (same : since q ≡ since p)
    (later : length (since p).own.steps ≤ length (view p).own.steps) (small : place < 8) where
  abbrev time : Moment
  time = record { epoch = told.epoch; taken_out = length (view q).seen_taken_out; updates = length (view q).seen_updates }

  abbrev step : ℕ
  step = length (view p).own.steps + 1

  abbrev began : Guard
  began = started_if (is_first p) time (view p).own.guard step

  goes : HasStarted p → began ≡ (view p).own.guard
  goes h = ap (λ (b : Bool). started_if b time (view p).own.guard step) (later_load p h)

  many : length began.holds ≡ 8
  many = many_then (is_first p) time (view p).own.guard step ∙ told.many

  guard_is : (view q).own.guard ≡ holding began place (target_of (link_in n))
  guard_is = ap (λ (v : View). v.own.guard) told.view

  abbrev seen_by : began.start_updates ≤ length (view q).seen_updates
  seen_by = start_seen s none p q o place n (target_of (link_in n)) told (is_first p) told.epoch (length (view q).seen_taken_out) step

  -- what was seen
  pub has_seen : (link : LinkParts) → link_in n ≡ link → HasSeen s place o p q link
  has_seen link e = subst (HasSeen s place o p q) e (load.has_seen s none p q o place n (target_of (link_in n)) told same began guard_is (started_later p later time) seen_by many small goes (link_in n) refl)

  -- it is held there
  pub holds_there : (r : RefParts) → mark_bit (link_in n) ≡ 0 → (link_in n).target ≡ Some r → HoldsThere q (record { place = place; target = r })
  holds_there r clear to = load.holds_there s none p q o place n (target_of (link_in n)) told same began guard_is (started_later p later time) seen_by many small goes r (unmarked_target (link_in n) r clear to)

  -- or nothing is
  pub nothing_there : target_of (link_in n) ≡ None → HoldsNothing place q
  nothing_there = load.holds_nothing s none q (view p) o (reach_at p place) (target_of (link_in n)) n told (λ m t. none_laws.reached m (view p).own.guard (reach_at p place) t small)

  -- what is held and known elsewhere stays
  pub keeps_else : KeepsElse place p q
  keeps_else = load.keeps_else s none p q o place n (target_of (link_in n)) told same began guard_is (started_later p later time) seen_by many small goes
