-- One load of a link, to hold what it leads to where the own word names that: what is held and known elsewhere stays, and the guard has started.
use Rattle.std.proofs.Common.{◌≡◌, ◌≢◌, ℕ, ◌+◌, ◌<◌, ◌≤◌, List, length, set, get_or-set_other, Bool, true, false, Option, Some, sym, ap, ◌∙◌, subst, refl, arith}
use Rattle.atomic_table.proofs.Lists.{set_else}
use Rattle.record_memory.specs.declared.books.View.{View}
use Rattle.record_memory.specs.declared.books.Guard.{Guard}
use Rattle.record_memory.specs.declared.books.Note.{Note}
use Rattle.row_words.specs.Refs.{RefParts}
use Rattle.row_words.specs.Packing.{link_in}
use Rattle.record_rule.specs.Facts.{At, Moment, ShapeFacts}
use Rattle.record_rule.specs.Guards.{started_if, holding}
use Rattle.record_rule.specs.Opening.{no_note}
use Rattle.record_rule.specs.Links.{Origin, target_of, note_in, note_of, ReachedLink}
use Rattle.record_table.specs.declared.passes.Pass.{Pass}
use Rattle.record_table.specs.Handles.{view, since}
use Rattle.record_table.specs.Nodes.{HasStarted, is_first, reach_at}
use Rattle.record_table.proofs.Started.{later_load}
use Rattle.hazard_facts.specs.Pointers.{named_by, hazard}
use Rattle.reclaim_api.specs.Holds.{KeepsElse}
use Rattle.reclaim_api.proofs.Keeping.{GoesOnAt, keeps_by}
use Rattle.reclaim_api.proofs.Reaching.{started_before, started_later}
use Rattle.reclaim_api.proofs.Kept.{kept_on}

module _ (s : ShapeFacts) {S R : Type 0} (p q : Pass S R) (o : Origin) (place n : ℕ) (told : ReachedLink s hazard (view p) o 3 (reach_at p place) n (view q)) (same : since q ≡ since p)
    (later : length (since p).own.steps ≤ length (view p).own.steps) where
  abbrev time : Moment
  time = record { epoch = told.epoch; taken_out = length (view q).seen_taken_out; updates = length (view q).seen_updates }

  abbrev step : ℕ
  step = length (view p).own.steps + 1

  abbrev held : Option RefParts
  held = named_by (view p).own.guard place (target_of (link_in n))

  guard_is : (view q).own.guard ≡ holding (started_if (is_first p) time (view p).own.guard step) place held
  guard_is = ap (λ (v : View). v.own.guard) told.view

  -- the guard started with this load or before
  pub has_started : HasStarted q
  has_started = subst (λ (x : View × Guard). length x.0.own.steps < x.1.start_step) (λ k. (sym same k, sym guard_is k)) (started_later p later time)

  -- no later than with it
  pub start_seen : (view q).own.guard.start_updates ≤ length (view q).seen_updates
  start_seen = subst (λ (g : Guard). g.start_updates ≤ length (view q).seen_updates) (sym guard_is) (by (is_first p))
    where
      by : (b : Bool) → (started_if b time (view p).own.guard step).start_updates ≤ length (view q).seen_updates
      by true = omega arith
      by false = started_before s hazard p q o place n (target_of (link_in n)) told

  -- its words are what they were
  pub words_still : (view q).own.guard.announced ≡ (view p).own.guard.announced
  words_still = ap (λ (g : Guard). g.announced) guard_is ∙ kept_on (λ (g : Guard). g.announced) (λ m g at. refl) (is_first p) time (view p).own.guard step

  -- and so is what a scan has loaded
  pub loaded_still : (view q).own.guard.loaded ≡ (view p).own.guard.loaded
  loaded_still = ap (λ (g : Guard). g.loaded) guard_is ∙ kept_on (λ (g : Guard). g.loaded) (λ m g at. refl) (is_first p) time (view p).own.guard step

  notes_are : (view q).own.notes ≡ set (view p).own.notes place (note_of s told.target (length (view q).seen_updates))
  notes_are = ap (λ (v : View). v.own.notes) told.view

  -- a note of another place stays
  pub note_else : (other : ℕ) → other ≢ place → note_in (view q).own.notes other ≡ note_in (view p).own.notes other
  note_else other ne = ap (λ (l : List Note). note_in l other) notes_are ∙ get_or-set_other (view p).own.notes place other (note_of s told.target (length (view q).seen_updates)) no_note ne

  -- what is held and known elsewhere stays
  pub keeps_else : KeepsElse place p q
  keeps_else = keeps_by p q same (λ other. other ≢ place) (λ other f. other ≢ place) (ap (λ (v : View). v.setup) told.view) (λ h. goes_on h)
      (λ other f m ne at. subst (λ (x : Note). At x.words f (Some m)) (sym (note_else other ne)) at)
      (λ other ne. ap (λ (x : Note). length x.words) (note_else other ne))
      (λ other ne. ap (λ (x : Note). x.reached_at) (note_else other ne))
      told.whole.seen_updates
    where
      goes_on : HasStarted p → GoesOnAt (λ other. other ≢ place) (view p).own.guard (view q).own.guard
      goes_on h = let e : (view q).own.guard ≡ holding (view p).own.guard place held = guard_is ∙ ap (λ (b : Bool). holding (started_if b time (view p).own.guard step) place held) (later_load p h) in record {
        step = ap (λ (g : Guard). g.start_step) e;
        updates = ap (λ (g : Guard). g.start_updates) e;
        holds = λ other r ne at. subst (λ (g : Guard). At g.holds other (Some r)) (sym e) (set_else (view p).own.guard.holds place other held ne ∙ at);
      }
