-- What a caller holds and knows once it loaded a link and holds, by that load alone, what the link leads to.
use Rattle.std.proofs.Common.{◌≡◌, ◌≢◌, ℕ, bit_and, ◌+◌, ◌<◌, ◌≤◌, List, length, length-append, set, get_or-set_same, get_or-set_other, Bool, true, false, not, nat_lt, cond, eqb, sym, ap, ◌∙◌, subst, refl, arith, Option, Some, None}
use Rattle.std.specs.Prelude.{◌%◌}
use Rattle.std.proofs.lemmas.Bool.{ltb-true}
use Rattle.std.proofs.lemmas.Nat.{and_mask}
use Rattle.atomic_table.proofs.Lists.{set_here, set_else}
use Rattle.record_memory.specs.declared.books.View.{View}
use Rattle.record_memory.specs.declared.books.Guard.{Guard}
use Rattle.record_memory.specs.declared.books.Note.{Note}
use Rattle.set_model.specs.declared.calls.Update.{Update}
use Rattle.row_words.specs.Refs.{RefParts, LinkParts}
use Rattle.row_words.specs.Packing.{link_in}
use Rattle.record_rule.specs.Facts.{At, mark_bit, Moment, Reach, ShapeFacts, CoverFacts}
use Rattle.record_rule.specs.Guards.{started_if, holding}
use Rattle.record_rule.specs.Inputs.{start_of}
use Rattle.record_rule.specs.Laws.{HasReached}
use Rattle.record_rule.specs.Opening.{no_note}
use Rattle.record_rule.specs.Links.{Origin, target_of, note_in, note_of, ReachedTarget}
use Rattle.record_rule.proofs.Rebuilt.{starts_itself}
use Rattle.record_table.specs.declared.passes.Pass.{Pass}
use Rattle.record_table.specs.Handles.{view, since}
use Rattle.record_table.specs.Nodes.{HasStarted, HoldsThere, is_first, reach_at}
use Rattle.reclaim_api.specs.Holds.{HasSeenTarget, HoldsNothing, KeepsElse}
use Rattle.reclaim_api.proofs.Keeping.{GoesOnAt, keeps_by}

-- a guard that started before holds no more updates than were seen
pub started_before : {S R : Type 0} (s : ShapeFacts) (c : CoverFacts) (p q : Pass S R) (o : Origin) (place n : ℕ) (t : Option RefParts) → ReachedTarget s c (view p) o 3 (reach_at p place) t n (view q) → (view p).own.guard.start_updates ≤ length (view q).seen_updates
started_before s c p q o place n t told = let r = told.whole.recent.updates_since in let e = ap (λ (l : List Update). length l) told.whole.seen_updates.1 in let f = length-append (view p).seen_updates told.whole.seen_updates.0 in omega arith

-- a guard that starts with a load, or started before it, started later than it began
pub started_later : {S R : Type 0} (p : Pass S R) → length (since p).own.steps ≤ length (view p).own.steps → (m : Moment) → length (since p).own.steps < (started_if (is_first p) m (view p).own.guard (length (view p).own.steps + 1)).start_step
started_later p later m = by (is_first p) refl
  where
    not_false : (b : Bool) → not b ≡ false → b ≡ true
    not_false true e = refl
    not_false false e = let none : ⊥ = cc in absurd none

    by : (b : Bool) → is_first p ≡ b → length (since p).own.steps < (started_if b m (view p).own.guard (length (view p).own.steps + 1)).start_step
    by true e = omega (arith, later)
    by false e = ltb-true (length (since p).own.steps) (view p).own.guard.start_step (not_false (nat_lt (length (since p).own.steps) (view p).own.guard.start_step) e)

-- the mark is the lowest of the flags
pub odd : (f : ℕ) → (bit_and f 1 ≡ 0 → ⊥) → f % 2 ≡ 1
odd f set = let some : f % 2 ≢ 0 = (λ e. set (and_mask f 1 ∙ e)) in omega arith

-- a link with a mark, or one that leads nowhere, lets nothing be held
pub marked_none : (n : ℕ) → mark_bit (link_in n) ≡ 1 → target_of (link_in n) ≡ None
marked_none n marked = ap (λ (b : ℕ). cond (eqb b 1) None (link_in n).target) marked

pub missing_none : (n : ℕ) → mark_bit (link_in n) ≡ 0 → (link_in n).target ≡ None → target_of (link_in n) ≡ None
missing_none n clear to = ap (λ (b : ℕ). cond (eqb b 1) None (link_in n).target) clear ∙ to

-- so that the place holds nothing
pub holds_nothing : (s : ShapeFacts) (c : CoverFacts) {S R : Type 0} (q : Pass S R) (v : View) (o : Origin) (r : Reach) (t : Option RefParts) (n : ℕ) → ReachedTarget s c v o 3 r t n (view q) → ((m : Moment) (t : Option RefParts) → HasReached c m v.own.guard r t)
    → t ≡ None → HoldsNothing r.place q
holds_nothing s c q v o r t n told reached none x at =
    let m : Moment = record { epoch = told.epoch; taken_out = length (view q).seen_taken_out; updates = length (view q).seen_updates } in
    let led : t ≡ Some x = (reached m t).only x (subst (λ (g : Guard). At g.holds r.place (Some x)) (ap (λ (w : View). w.own.guard) told.view) at) in
    let both : None ≡ Some x = sym none ∙ led in cc

-- where its guard starts with a load, that is no later than with this one
pub start_seen : {S R : Type 0} (s : ShapeFacts) (c : CoverFacts) (p q : Pass S R) (o : Origin) (place n : ℕ) (t : Option RefParts) → ReachedTarget s c (view p) o 3 (reach_at p place) t n (view q) → (b : Bool) (epoch taken_out step : ℕ)
    → (started_if b (record { epoch = epoch; taken_out = taken_out; updates = length (view q).seen_updates }) (view p).own.guard step).start_updates ≤ length (view q).seen_updates
start_seen s c p q o place n t told true epoch taken_out step = omega arith
start_seen s c p q o place n t told false epoch taken_out step = started_before s c p q o place n t told

-- a link that leads somewhere from a node without a mark
pub unmarked_target : (l : LinkParts) (r : RefParts) → mark_bit l ≡ 0 → l.target ≡ Some r → target_of l ≡ Some r
unmarked_target l r clear to = ap (λ (b : ℕ). cond (eqb b 1) None l.target) clear ∙ to

-- `began` is the caller's guard, started with this load or before, by which it reached t
module _ (s : ShapeFacts) (c : CoverFacts) {S R : Type 0} (p q : Pass S R) (o : Origin) (place n : ℕ) (t : Option RefParts) (told : ReachedTarget s c (view p) o 3 (reach_at p place) t n (view q)) (same : since q ≡ since p)
    (began : Guard) (guard_is : (view q).own.guard ≡ holding began place t) (started : length (since p).own.steps < began.start_step) (seen_since : began.start_updates ≤ length (view q).seen_updates)
    (many : length began.holds ≡ c.places) (small : place < c.places) (goes : HasStarted p → began ≡ (view p).own.guard) where
  notes_are : (view q).own.notes ≡ set (view p).own.notes place (note_of s told.target (length (view q).seen_updates))
  notes_are = ap (λ (v : View). v.own.notes) told.view

  -- the guard started with this load or before
  has_started : HasStarted q
  has_started = subst (λ (g : Guard). length (since q).own.steps < g.start_step) (sym guard_is) (subst (λ (v : View). length v.own.steps < began.start_step) (sym same) started)

  -- what was seen
  pub has_seen : (link : LinkParts) → link_in n ≡ link → HasSeenTarget s place o p q t link
  has_seen link e = record {
    word = n;
    link_is = e;
    updates = (view q).seen_updates;
    taken_out = (view q).seen_taken_out;
    whole = told.whole;
    target = told.target;
    found = told.found;
    at_load = view p;
    setup = refl;
    near = refl;
    saw = told.saw;
    noted = starts_itself (view q).seen_updates;
    seen = ap (λ (v : View). v.own.updates_seen) told.view;
    note = ap (λ (l : List Note). note_in l place) notes_are ∙ get_or-set_same (view p).own.notes place (note_of s told.target (length (view q).seen_updates)) no_note (let m = told.noted in omega arith);
    started = has_started;
    since_start = subst (λ (g : Guard). g.start_updates ≤ length (view q).seen_updates) (sym guard_is) seen_since;
  }

  -- by the start that the pass knew
  pub has_seen_from : (link : LinkParts) → link_in n ≡ link → (seen : HasSeenTarget s place o p q t link) × (start_of seen.at_load.own.guard ≡ start_of (view p).own.guard)
  unfolding has_seen
  has_seen_from link e = (has_seen link e, refl)

  -- it is held there
  pub holds_there : (r : RefParts) → t ≡ Some r → HoldsThere q (record { place = place; target = r })
  holds_there r leads = record {
    started = has_started;
    within = let w = told.within r leads in subst (λ (v : View). r.index ≤ v.setup.records) (sym told.view) w;
    holds = subst (λ (g : Guard). At g.holds place (Some r)) (sym (guard_is ∙ ap (λ z. holding began place z) leads)) (set_here began.holds place (Some r) (omega arith));
  }

  -- what is held and known elsewhere stays
  pub keeps_else : KeepsElse place p q
  keeps_else = keeps_by p q same (λ other. other ≢ place) (λ other f. other ≢ place) (ap (λ (v : View). v.setup) told.view) (λ h. goes_on h)
      (λ other f m ne at. subst (λ (l : List Note). At (note_in l other).words f (Some m)) (sym notes_are) (subst (λ (x : Note). At x.words f (Some m)) (sym (note_else other ne)) at))
      (λ other ne. ap (λ (l : List Note). length (note_in l other).words) notes_are ∙ ap (λ (x : Note). length x.words) (note_else other ne))
      (λ other ne. ap (λ (l : List Note). (note_in l other).reached_at) notes_are ∙ ap (λ (x : Note). x.reached_at) (note_else other ne))
      told.whole.seen_updates
    where
      note_else : (other : ℕ) → other ≢ place → note_in (set (view p).own.notes place (note_of s told.target (length (view q).seen_updates))) other ≡ note_in (view p).own.notes other
      note_else other ne = get_or-set_other (view p).own.notes place other (note_of s told.target (length (view q).seen_updates)) no_note ne

      guard_else : HasStarted p → (view q).own.guard ≡ holding (view p).own.guard place t
      guard_else h = guard_is ∙ ap (λ (g : Guard). holding g place t) (goes h)

      goes_on : HasStarted p → GoesOnAt (λ other. other ≢ place) (view p).own.guard (view q).own.guard
      goes_on h = let e = guard_else h in record {
        step = ap (λ (g : Guard). g.start_step) e;
        updates = ap (λ (g : Guard). g.start_updates) e;
        holds = λ other r ne at. subst (λ (g : Guard). At g.holds other (Some r)) (sym e) (set_else (view p).own.guard.holds place other t ne ∙ at);
      }
