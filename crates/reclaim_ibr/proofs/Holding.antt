-- What is held once a link was loaded and then the epoch, and what both loads show.
use Rattle.std.proofs.Common.{◌≡◌, ◌≢◌, ℕ, ◌<◌, ◌≤◌, List, [], ◌∷◌, length, length-set, set, get_or-set_same, get_or-set_other, Bool, cond, eqb, Some, None, sym, ap, ◌∙◌, subst, refl, arith}
use Rattle.std.proofs.lemmas.Bool.{eq-eqb, ne_eqb}
use Rattle.atomic_table.proofs.Lists.{set_here}
use Rattle.set_model.specs.declared.calls.Update.{Update}
use Rattle.record_memory.specs.declared.books.View.{View}
use Rattle.record_memory.specs.declared.books.Guard.{Guard}
use Rattle.record_memory.specs.declared.books.Note.{Note}
use Rattle.row_words.specs.Refs.{RefParts, LinkParts}
use Rattle.row_words.specs.Packing.{link_in}
use Rattle.record_rule.specs.Facts.{At, mark_bit, ShapeFacts}
use Rattle.record_rule.specs.World.{StartsWith}
use Rattle.record_rule.specs.Guards.{holding}
use Rattle.record_rule.specs.Opening.{no_note}
use Rattle.record_rule.specs.Links.{Origin, target_of, note_in, note_of, IsFound, ReachedLink}
use Rattle.record_rule.proofs.Rebuilt.{starts_itself}
use Rattle.record_table.specs.declared.passes.Pass.{Pass}
use Rattle.record_table.specs.Handles.{view, since}
use Rattle.record_table.specs.Nodes.{HasStarted, HoldsThere, reach_at}
use Rattle.guard_facts.specs.Announcing.{word_of}
use Rattle.ibr_facts.specs.Keeping.{ibr, ibr_reached, ibr_read}
use Rattle.ibr_facts.proofs.Reaching.{reached_so}
use Rattle.reclaim_api.specs.Holds.{HasSeen, HoldsNothing, KeepsElse}
use Rattle.reclaim_api.proofs.Keeping.{keeps_by}
use Rattle.reclaim_api.proofs.Reaching.{started_before}
use Rattle.reclaim_ibr.specs.Steps.{epoch_loaded, HasLoadedEpoch}
use Rattle.reclaim_ibr.proofs.Confirmed.{confirmed_rest, reached_else, read_else}

-- what a link without a mark lets hold
pub leads_to : (n : ℕ) (target : RefParts) → mark_bit (link_in n) ≡ 0 → (link_in n).target ≡ Some target → target_of (link_in n) ≡ Some target
leads_to n target clear to = ap (λ (b : ℕ). cond (eqb b 1) None (link_in n).target) clear ∙ to

-- `p` before the load of the link, and `then` after it
module _ (s : ShapeFacts) {S R : Type 0} (p then : Pass S R) (o : Origin) (place n : ℕ) (told : ReachedLink s ibr (view p) o 3 (reach_at p place) n (view then)) (same : since then ≡ since p) where
  pub reached_is : (view then).own.guard ≡ ibr_reached (view p).own.guard place (target_of (link_in n))
  reached_is = ap (λ (v : View). v.own.guard) told.view

  notes_are : (view then).own.notes ≡ set (view p).own.notes place (note_of s told.target (length (view then).seen_updates))
  notes_are = ap (λ (v : View). v.own.notes) told.view

  note_else : (other : ℕ) → other ≢ place → note_in (view then).own.notes other ≡ note_in (view p).own.notes other
  note_else other ne = ap (λ (l : List Note). note_in l other) notes_are ∙ get_or-set_other (view p).own.notes place other (note_of s told.target (length (view then).seen_updates)) no_note ne

  -- a pass that knows as much, and goes on with the guard
  pub seen_by : (q : Pass S R) → since q ≡ since then → (view q).seen_updates ≡ (view then).seen_updates → (view q).own.updates_seen ≡ (view then).own.updates_seen → (view q).own.notes ≡ (view then).own.notes
      → (view q).own.guard.start_step ≡ (view p).own.guard.start_step → (view q).own.guard.start_updates ≡ (view p).own.guard.start_updates → HasStarted p → place < 8 → (link : LinkParts) → link_in n ≡ link → HasSeen s place o p q link
  seen_by q goes_on updates seen notes step since_updates started low link e = record {
    word = n;
    link_is = e;
    updates = (view then).seen_updates;
    taken_out = (view then).seen_taken_out;
    whole = told.whole;
    target = told.target;
    found = subst (λ (l : LinkParts). IsFound (target_of l) told.target) e told.found;
    at_load = view p;
    setup = refl;
    near = refl;
    saw = told.saw;
    noted = subst (λ (l : List Update). StartsWith l (view then).seen_updates) (sym updates) (starts_itself (view then).seen_updates);
    seen = seen ∙ ap (λ (v : View). v.own.updates_seen) told.view;
    note = ap (λ (l : List Note). note_in l place) (notes ∙ notes_are) ∙ get_or-set_same (view p).own.notes place (note_of s told.target (length (view then).seen_updates)) no_note (let m = told.noted in omega arith);
    started = subst (λ (x : View × ℕ). length x.0.own.steps < x.1) (λ k. (sym (goes_on ∙ same) k, sym step k)) started;
    since_start = let a = started_before s ibr p then o place n (target_of (link_in n)) told in omega arith;
  }

  -- as it does after the one load
  pub seen_then : HasStarted p → place < 8 → (link : LinkParts) → link_in n ≡ link → HasSeen s place o p then link
  seen_then = seen_by then refl refl refl refl (ap (λ (v : View). v.own.guard.start_step) told.view) (ap (λ (v : View). v.own.guard.start_updates) told.view)

  -- what is held and known elsewhere stays
  pub keeps_then_else : KeepsElse place p then
  keeps_then_else = keeps_by p then same (λ other. other ≢ place) (λ other f. other ≢ place) (ap (λ (v : View). v.setup) told.view)
      (λ h. record {
        step = ap (λ (v : View). v.own.guard.start_step) told.view;
        updates = ap (λ (v : View). v.own.guard.start_updates) told.view;
        holds = λ other r ne at. subst (λ (g : Guard). At g.holds other (Some r)) (sym reached_is) (reached_else (view p).own.guard place (target_of (link_in n)) other r ne at);
      })
      (λ other f m ne at. subst (λ (x : Note). At x.words f (Some m)) (sym (note_else other ne)) at)
      (λ other ne. ap (λ (x : Note). length x.words) (note_else other ne))
      (λ other ne. ap (λ (x : Note). x.reached_at) (note_else other ne))
      told.whole.seen_updates

  -- the link leads to a record, and the epoch is loaded: `q` after that
  module _ (q : Pass S R) (e : ℕ) (h : HasLoadedEpoch (view then) e (view q)) (goes_on : since q ≡ since then) (target : RefParts) (clear : mark_bit (link_in n) ≡ 0) (to : (link_in n).target ≡ Some target) where
    -- the target waits
    abbrev waiting : Guard
    waiting = ibr_reached (view p).own.guard place (Some target)

    pub guard_is : (view q).own.guard ≡ ibr_read (Some (place, target)) waiting e h.taken_out
    guard_is = ap (λ (v : View). v.own.guard) h.view ∙ ap (λ (g : Guard). ibr_read g.pending g e h.taken_out) (reached_is ∙ ap (ibr_reached (view p).own.guard place) (leads_to n target clear to))

    -- where the epoch isn't the upper end, the place holds nothing
    pub holds_none : e ≢ word_of (view p).own.guard 1 → HoldsNothing place q
    holds_none other r at = let reached = reached_so (record { epoch = 0; taken_out = 0; updates = 0 }) (view p).own.guard (reach_at p place) (Some target) in let none = reached.waits place target refl in
        none.2 r (subst (λ (g : Guard). At g.holds place (Some r)) (guard_is ∙ ap (λ (b : Bool). record (cond b (holding waiting place (Some target)) waiting) { readings = e ∷ []; reading_taken_out = h.taken_out }) (ne_eqb e (word_of (view p).own.guard 1) other)) at)

    pub rest_is : (view q).own.guard ≡ record waiting { holds = (view q).own.guard.holds; pending = (view q).own.guard.pending; readings = e ∷ []; reading_taken_out = h.taken_out }
    rest_is = guard_is ∙ ap (λ (g : Guard). record g { readings = e ∷ []; reading_taken_out = h.taken_out }) (confirmed_rest (Some (place, target)) waiting e)
        ∙ (λ k. record waiting { holds = (sym guard_is k).holds; pending = (sym guard_is k).pending; readings = e ∷ []; reading_taken_out = h.taken_out })

    pub keeps_loaded_else : KeepsElse place then q
    keeps_loaded_else = keeps_by then q goes_on (λ other. other ≢ place) (λ other f. other ≢ place) (ap (λ (v : View). v.setup) h.view)
        (λ x. record {
          step = ap (λ (g : Guard). g.start_step) rest_is ∙ sym (ap (λ (v : View). v.own.guard.start_step) told.view);
          updates = ap (λ (g : Guard). g.start_updates) rest_is ∙ sym (ap (λ (v : View). v.own.guard.start_updates) told.view);
          holds = λ other r ne at. subst (λ (g : Guard). At g.holds other (Some r)) (sym guard_is) (read_else waiting place target e h.taken_out other r ne (subst (λ (g : Guard). At g.holds other (Some r)) reached_is at));
        })
        (λ other f m ne at. subst (λ (v : View). At (note_in v.own.notes other).words f (Some m)) (sym h.view) at)
        (λ other ne. ap (λ (v : View). length (note_in v.own.notes other).words) h.view)
        (λ other ne. ap (λ (v : View). (note_in v.own.notes other).reached_at) h.view)
        (subst (λ (v : View). StartsWith v.seen_updates (view then).seen_updates) (sym h.view) (starts_itself (view then).seen_updates))

    module _ (started : HasStarted p) (low : place < 8) where
      -- what the link showed
      pub seen_after : (link : LinkParts) → link_in n ≡ link → HasSeen s place o p q link
      seen_after = seen_by q goes_on (ap (λ (v : View). v.seen_updates) h.view) (ap (λ (v : View). v.own.updates_seen) h.view) (ap (λ (v : View). v.own.notes) h.view)
          (ap (λ (g : Guard). g.start_step) rest_is) (ap (λ (g : Guard). g.start_updates) rest_is) started low

      -- where the epoch is the upper end, the target is held
      pub holds_there : e ≡ word_of (view p).own.guard 1 → HoldsThere q (record { place = place; target = target })
      holds_there found = record {
        started = (seen_after (link_in n) refl).started;
        within = let w = told.within target (leads_to n target clear to) in subst (λ (v : View). target.index ≤ v.setup.records) (sym (h.view ∙ ap (λ (v : View). epoch_loaded v e h.taken_out) told.view)) w;
        holds = subst (λ (g : Guard). At g.holds place (Some target)) (sym (guard_is ∙ ap (λ (b : Bool). record (cond b (holding waiting place (Some target)) waiting) { readings = e ∷ []; reading_taken_out = h.taken_out }) (eq-eqb e (word_of (view p).own.guard 1) found)))
            (set_here waiting.holds place (Some target) (let m = told.many in let l = length-set (view p).own.guard.holds place None in omega arith));
      }
