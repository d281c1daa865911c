-- What a caller holds and knows once it followed a link, under a reclaimer by which it then holds at once what the link leads to.
use Rattle.std.proofs.Common.{◌≡◌, ℕ, ◌+◌, ◌<◌, ◌≤◌, length, length-append, get_or, Bool, true, false, ◌&&◌, sym, ap, ◌∙◌, subst, refl, arith, Option, Some, None}
use Rattle.std.proofs.lemmas.Bool.{and_right}
use Rattle.std.proofs.lemmas.List.{length-map}
use Rattle.atomic_table.proofs.Lists.{set_here}
use Rattle.record_memory.specs.declared.books.View.{View}
use Rattle.record_memory.specs.declared.books.Guard.{Guard}
use Rattle.row_words.specs.Refs.{RefParts, LinkParts}
use Rattle.row_words.specs.Packing.{link_in, IsLink}
use Rattle.row_words.proofs.Packed.{link_in-packed_link}
use Rattle.record_rule.specs.Facts.{At, Moment, ShapeFacts, CoverFacts}
use Rattle.record_rule.specs.Guards.{nothing_at, started_if, holding}
use Rattle.record_rule.specs.Frozen.{FrozenLaws}
use Rattle.record_rule.specs.Inputs.{start_of}
use Rattle.record_rule.specs.Links.{Origin}
use Rattle.record_rule.specs.FrozenLinks.{FollowedLink}
use Rattle.record_table.specs.declared.passes.Pass.{Pass}
use Rattle.record_table.specs.Handles.{view, since, is_inside}
use Rattle.record_table.specs.Nodes.{HasStarted, HoldsThere, is_first, reach_at}
use Rattle.record_table.proofs.Started.{later_load}
use Rattle.reclaim_api.specs.declared.following.Reached.{Reached}
use Rattle.reclaim_api.specs.Following.{holds_at, found_link, HoldsReached, HasFollowed}
use Rattle.reclaim_api.specs.Frames.{in_away, SamePart}
use Rattle.reclaim_api.specs.Holds.{HasSeenTarget, HoldsNothing, KeepsElse}
use Rattle.reclaim_api.proofs.Reaching.{start_seen, started_later}
use Rattle.reclaim_api.proofs.Reaching as load

-- a guard has as many places, started or not
many_started : (b : Bool) (m : Moment) (g : Guard) (step : ℕ) → length (started_if b m g step).holds ≡ length g.holds
many_started true m g step = length-map g.holds nothing_at
many_started false m g step = refl

-- who is inside has started its guard, unless guards start with loads of links
pub inside_started : {S R L : Type 0} (p : Pass S R) (is_local : L → Bool → View → View → Type 0) (l : L) (c : CoverFacts) → ((k : L) (x v : View) → is_local k true x v → c.begins_loading ≡ false → length x.own.steps < v.own.guard.start_step)
    → is_inside p ≡ true → is_local l (is_inside p) (since p) (view p) → c.begins_loading ≡ false → HasStarted p
inside_started p is_local l c has is h e = has l (since p) (view p) (subst (λ (b : Bool). is_local l b (since p) (view p)) is h) e

module _ (s : ShapeFacts) (c : CoverFacts) (frozen : FrozenLaws c) {S R : Type 0} (p q : Pass S R) (o : Origin) (place n : ℕ) (told : FollowedLink s c (view p) o 3 (reach_at p place) n (view q)) (same : since q ≡ since p)
    (later : length (since p).own.steps ≤ length (view p).own.steps) (late : c.begins_loading ≡ false → HasStarted p) where
  -- what the link leads to
  abbrev led : Option RefParts
  led = (link_in n).target

  abbrev time : Moment
  time = record { epoch = told.epoch; taken_out = length (view q).seen_taken_out; updates = length (view q).seen_updates }

  -- the guard, started with this load or before
  abbrev step : ℕ
  step = length (view p).own.steps + 1

  abbrev starts : Bool
  starts = c.begins_loading && is_first p

  abbrev began : Guard
  began = started_if starts time (view p).own.guard step

  guard_is : (view q).own.guard ≡ holding began place led
  guard_is = ap (λ (v : View). v.own.guard) told.view ∙ frozen.holds time (view p).own.guard (reach_at p place) led

  started : length (since p).own.steps < began.start_step
  started = by c.begins_loading refl
    where
      by : (b : Bool) → c.begins_loading ≡ b → length (since p).own.steps < (started_if (b && is_first p) time (view p).own.guard step).start_step
      by true e = started_later p later time
      by false e = late e

  abbrev seen_by : began.start_updates ≤ length (view q).seen_updates
  seen_by = start_seen s c p q o place n led told starts told.epoch (length (view q).seen_taken_out) step

  abbrev many : length began.holds ≡ c.places
  many = many_started starts time (view p).own.guard step ∙ told.many

  goes : HasStarted p → began ≡ (view p).own.guard
  goes h = ap (λ (b : Bool). started_if b time (view p).own.guard step) (and_right c.begins_loading (is_first p) (later_load p h))

  module _ (small : place < c.places) where
    -- what was seen, by the start that the pass knew
    pub has_seen : (r : Reached) → link_in n ≡ found_link r → (seen : HasSeenTarget s place o p q (found_link r).target (found_link r)) × (start_of seen.at_load.own.guard ≡ start_of (view p).own.guard)
    has_seen r e = subst (λ (z : Option RefParts). (seen : HasSeenTarget s place o p q z (found_link r)) × (start_of seen.at_load.own.guard ≡ start_of (view p).own.guard)) (ap (λ (l : LinkParts). l.target) e)
        (load.has_seen_from s c p q o place n led told same began guard_is started seen_by many small goes (found_link r) e)

    -- it is held there
    pub holds_there : (r : RefParts) → led ≡ Some r → HoldsThere q (record { place = place; target = r })
    holds_there = load.holds_there s c p q o place n led told same began guard_is started seen_by many small goes

    -- and nothing where it leads nowhere
    pub holds_none : led ≡ None → HoldsNothing place q
    holds_none none r at =
        let here : At (view q).own.guard.holds place None = subst (λ (g : Guard). At g.holds place None) (sym (guard_is ∙ ap (λ z. holding began place z) none)) (set_here began.holds place None (let e = many in omega arith)) in
        let both = sym here ∙ at in cc

    -- what is held and known elsewhere stays
    pub keeps_else : KeepsElse place p q
    keeps_else = load.keeps_else s c p q o place n led told same began guard_is started seen_by many small goes

  -- it made one step more
  steps_are : length (view q).own.steps ≡ step
  steps_are = ap (λ (v : View). length v.own.steps) told.view ∙ length-append (view p).own.steps _

  -- which found no fewer updates than it knew to come before
  front_known : length (view p).front ≤ length (view q).seen_updates
  front_known = let n = ap length told.whole.front.1 in let l = length-append (view p).front told.whole.front.0 in omega arith

  -- a local part is the caller's own still, where that depends on nothing that it holds
  pub local_then : {L : Type 0} (is_local : L → Bool → View → View → Type 0) (l : L) (inside : Bool) → is_inside p ≡ true → inside ≡ true → ((k : L) (b : Bool) (x v w : View) → SamePart c v w → is_local k b x v → is_local k b x w)
      → ((k : L) (x v : View) (place : ℕ) (t : Option RefParts) → is_local k true x v → is_local k true x (holds_at v place t)) → is_local l (is_inside p) (since p) (view p) → is_local l inside (since q) (view q)
  local_then is_local l inside is then stays holds h = let u : View = record (view q) { own = record (view q).own { guard = began } } in
      let part : SamePart c (view p) u = record {
        setup = ap (λ (v : View). v.setup) told.view;
        caller = ap (λ (v : View). v.own.caller) told.view;
        guard = record { first = is_first p; moment = time; step = step; guard = refl; made = omega (arith, steps_are); behind = front_known };
        steps = omega (arith, steps_are);
        front = omega (arith, ap (λ (v : View). length v.front) told.view);
        away = λ i. ap (λ (v : View). in_away (get_or v.own.mine i None)) told.view;
        retired = ap (λ (v : View). v.own.moves.retired) told.view;
        births = ap (λ (v : View). v.own.moves.births) told.view;
      } in
      let before = subst (λ (b : Bool). is_local l b (since p) (view p)) is h in let held = holds l (since p) u place led (stays l true (since p) (view p) u part before) in
      let now : is_local l true (since p) (view q) = subst (λ (g : Guard). is_local l true (since p) (record (view q) { own = record (view q).own { guard = g } })) (sym guard_is) held in
      subst (λ (z : Bool × View). is_local l z.0 z.1 (view q)) (λ k. (sym then k, sym same k)) now

  -- what an answer shows, once it is held there
  pub has_followed : {L : Type 0} (is_local : L → Bool → View → View → Type 0) (l : L) → is_inside p ≡ true → ((k : L) (b : Bool) (x v w : View) → SamePart c v w → is_local k b x v → is_local k b x w)
      → ((k : L) (x v : View) (at : ℕ) (t : Option RefParts) → is_local k true x v → is_local k true x (holds_at v at t)) → ((k : L) (x v : View) → is_local k true x v → length x.own.steps < v.own.guard.start_step → length x.front ≤ v.own.guard.start_updates)
      → is_local l (is_inside p) (since p) (view p) → place < c.places → (r : Reached) → link_in n ≡ found_link r → HoldsReached place r q → HasFollowed s place o p r q
  has_followed is_local l is stays holds starts h small r e held = let saw = has_seen small r e in record {
    holds = held;
    seen = saw.0;
    in_range = subst IsLink (sym (ap link_in told.link.packed ∙ link_in-packed_link told.link.own told.link.link told.link.in_range) ∙ e) told.link.in_range;
    start = saw.1;
    behind = subst (λ (v : View). length v.front ≤ (view q).own.guard.start_updates) same (starts l (since q) (view q) (local_then is_local l true is refl stays holds h) saw.0.started);
  }
