-- What one call leaves of what a pass holds and knows.
use Rattle.std.proofs.Common.{◌≡◌, ◌≢◌, ◌⊎◌, ⊎_elim, ℕ, ◌+◌, ◌<◌, ◌≤◌, List, [], ◌∷◌, length, Bool, true, false, ◌&&◌, Option, Some, None, sym, refl, ap, ◌∙◌, subst}
use native.Mathlib.Decide.{ℕ_discrete}
use Rattle.set_model.specs.declared.calls.Call.{Call}
use Rattle.set_model.specs.declared.calls.Update.{Update}
use Rattle.record_memory.specs.declared.steps.StepKind.{StepKind}
use Rattle.record_memory.specs.declared.books.LockedWord.{LockedWord}
use Rattle.record_memory.specs.declared.books.Guard.{Guard}
use Rattle.record_memory.specs.declared.books.Note.{Note}
use Rattle.record_memory.specs.declared.books.Setup.{Setup}
use Rattle.record_memory.specs.declared.books.View.{View}
use Rattle.row_words.specs.Refs.{RefParts, LinkParts}
use Rattle.record_rule.specs.Facts.{At, ShapeFacts, CoverFacts, FitsNote}
use Rattle.record_rule.specs.Guards.{started_if}
use Rattle.record_rule.specs.Laws.{with_update}
use Rattle.record_rule.specs.World.{StartsWith}
use Rattle.record_rule.specs.Links.{Origin, from_root, from_place, near_of, FitsBody, note_in, noting, own_update, LoadedLink, LeftLink, PublishedBy, UnlinkedBy}
use Rattle.record_rule.proofs.Rebuilt.{starts_itself, starts_more, starts_then}
use Rattle.record_table.specs.declared.passes.Pass.{Pass}
use Rattle.record_table.specs.Handles.{view, since}
use Rattle.record_table.specs.Nodes.{HasStarted, is_first}
use Rattle.record_table.proofs.Started.{later_load}
use Rattle.reclaim_api.specs.Holds.{IsElsewhere, KeepsSome, KeepsHeld, KeepsButLink}
use Rattle.reclaim_api.proofs.Noting.{noting_keeps, noting_long, noting_reached}

-- a guard that started holds this much still
pub record GoesOnAt (places : ℕ → Type 0) (g h : Guard) : Type 0 where
  pub step : h.start_step ≡ g.start_step
  pub updates : h.start_updates ≡ g.start_updates
  pub holds : (place : ℕ) (r : RefParts) → places place → At g.holds place (Some r) → At h.holds place (Some r)

pub same_at : (places : ℕ → Type 0) (g h : Guard) → h ≡ g → GoesOnAt places g h
same_at places g h e = record {
  step = ap (λ (x : Guard). x.start_step) e;
  updates = ap (λ (x : Guard). x.start_updates) e;
  holds = λ place r here at. subst (λ (x : Guard). At x.holds place (Some r)) (sym e) at;
}

module _ {S R : Type 0} where
  -- less is kept, too
  pub keeps_less : (places places' : ℕ → Type 0) (words words' : ℕ → ℕ → Type 0) (p q : Pass S R) → ((place : ℕ) → places' place → places place) → ((place f : ℕ) → words' place f → words place f) → KeepsSome places words p q → KeepsSome places' words' p q
  keeps_less places places' words words' p q fewer less k = record {
    holds = λ h here there. k.holds h (fewer h.place here) there;
    notes = λ place f n here at. k.notes place f n (less place f here) at;
    long = λ place here. k.long place (fewer place here);
    reached = λ place here. k.reached place (fewer place here);
    noted = k.noted;
    goes_on = k.goes_on;
  }

  -- all is kept where nothing is done
  pub keeps_start : (p : Pass S R) → KeepsHeld p p
  keeps_start p = record {
    holds = λ h here there. there;
    notes = λ place f n here at. at;
    long = λ place here. refl;
    reached = λ place here. refl;
    noted = starts_itself (view p).seen_updates;
    goes_on = λ h. (h, refl);
  }

  -- what two calls keep
  pub keeps_then : (places : ℕ → Type 0) (words : ℕ → ℕ → Type 0) (p q r : Pass S R) → KeepsSome places words p q → KeepsSome places words q r → KeepsSome places words p r
  keeps_then places words p q r a b = record {
    holds = λ h here there. b.holds h here (a.holds h here there);
    notes = λ place f n here at. b.notes place f n here (a.notes place f n here at);
    long = λ place here. b.long place here ∙ a.long place here;
    reached = λ place here. b.reached place here ∙ a.reached place here;
    noted = starts_then (view p).seen_updates (view q).seen_updates (view r).seen_updates a.noted b.noted;
    goes_on = λ h. (let x = a.goes_on h in let y = b.goes_on x.0 in (y.0, y.1 ∙ x.1));
  }

  pub held_then : (p q r : Pass S R) → KeepsHeld p q → KeepsHeld q r → KeepsHeld p r
  held_then p q r a b = keeps_then (λ place. Unit {0}) (λ place f. Unit {0}) p q r a b

  module _ (p q : Pass S R) (began : since q ≡ since p) where
    started_still : (view q).own.guard.start_step ≡ (view p).own.guard.start_step → HasStarted p → HasStarted q
    started_still step h = subst (λ (x : View × ℕ). length x.0.own.steps < x.1) (λ k. (sym began k, sym step k)) h

    -- a guard that goes on where it started keeps what it holds, and what is known is what the notes keep
    pub keeps_by : (places : ℕ → Type 0) (words : ℕ → ℕ → Type 0) → (view q).setup ≡ (view p).setup → (HasStarted p → GoesOnAt places (view p).own.guard (view q).own.guard)
        → ((place f n : ℕ) → words place f → At (note_in (view p).own.notes place).words f (Some n) → At (note_in (view q).own.notes place).words f (Some n))
        → ((place : ℕ) → places place → length (note_in (view q).own.notes place).words ≡ length (note_in (view p).own.notes place).words)
        → ((place : ℕ) → places place → (note_in (view q).own.notes place).reached_at ≡ (note_in (view p).own.notes place).reached_at)
        → StartsWith (view q).seen_updates (view p).seen_updates → KeepsSome places words p q
    keeps_by places words setup guard notes long reached noted = record {
      holds = λ h here there. record {
        started = started_still (guard there.started).step there.started;
        within = subst (λ (x : Setup). h.target.index ≤ x.records) (sym setup) there.within;
        holds = (guard there.started).holds h.place h.target here there.holds;
      };
      notes = notes;
      long = long;
      reached = reached;
      noted = noted;
      goes_on = λ h. (started_still (guard h).step h, (guard h).updates);
    }

    -- a pass whose guard and notes stay keeps all
    pub keeps_held : (view q).setup ≡ (view p).setup → (view q).own.guard ≡ (view p).own.guard → (view q).own.notes ≡ (view p).own.notes → StartsWith (view q).seen_updates (view p).seen_updates → KeepsHeld p q
    keeps_held setup guard notes noted = keeps_by (λ place. Unit {0}) (λ place f. Unit {0}) setup (λ h. same_at (λ place. Unit {0}) (view p).own.guard (view q).own.guard guard)
        (λ place f n here at. subst (λ (l : List Note). At (note_in l place).words f (Some n)) (sym notes) at)
        (λ place here. ap (λ (l : List Note). length (note_in l place).words) notes) (λ place here. ap (λ (l : List Note). (note_in l place).reached_at) notes) noted

    -- as after steps that leave the guard, the notes and the sight of the updates
    pub keeps_same : (view q).setup ≡ (view p).setup → (view q).own.guard ≡ (view p).own.guard → (view q).own.notes ≡ (view p).own.notes → (view q).seen_updates ≡ (view p).seen_updates → KeepsHeld p q
    keeps_same setup guard notes seen = keeps_held setup guard notes (subst (λ (l : List Update). StartsWith l (view p).seen_updates) (sym seen) (starts_itself (view p).seen_updates))

    module _ (s : ShapeFacts) (o : Origin) where
      -- after a load of a link
      pub keeps_load : (c : CoverFacts) (n : ℕ) → (view q).setup ≡ (view p).setup → LoadedLink s c (view p) o 3 (is_first p) n (view q) → KeepsHeld p q
      keeps_load c n setup told = keeps_by (λ place. Unit {0}) (λ place f. Unit {0}) setup
          (λ h. same_at (λ place. Unit {0}) (view p).own.guard (view q).own.guard (guard h))
          (λ place f m here at. subst (λ (l : List Note). At (note_in l place).words f (Some m)) (sym notes) (noting_keeps settled (view p).own.notes o n place f m (λ z at_place. was_known o refl place m at_place (subst (λ k. At (note_in (view p).own.notes place).words k (Some m)) z at)) at))
          (λ place here. ap (λ (l : List Note). length (note_in l place).words) notes ∙ noting_long settled (view p).own.notes o n place)
          (λ place here. ap (λ (l : List Note). (note_in l place).reached_at) notes ∙ noting_reached settled (view p).own.notes o n place)
          told.whole.seen_updates
        where
          settled : Bool
          settled = s.settled 3 told.saw.body

          notes : (view q).own.notes ≡ noting settled (view p).own.notes o 3 n
          notes = ap (λ (v : View). v.own.notes) told.view

          guard : HasStarted p → (view q).own.guard ≡ (view p).own.guard
          guard h = ap (λ (v : View). v.own.guard) told.view
              ∙ ap (λ (b : Bool). started_if b (record { epoch = told.epoch; taken_out = length (view q).seen_taken_out; updates = length (view q).seen_updates }) (view p).own.guard (length (view p).own.steps + 1)) (never c.begins_loading (is_first p) (later_load p h))
            where
              never : (a b : Bool) → b ≡ false → (a && b) ≡ false
              never true b e = e
              never false b e = refl

          -- what was known of the link is what it is
          was_known : (x : Origin) → x ≡ o → (place m : ℕ) → ¬ IsElsewhere x place → At (note_in (view p).own.notes place).words 0 (Some m) → m ≡ n
          was_known (from_root k) e place m here at = absurd (here tt)
          was_known (from_place k r) e place m here at = by (ℕ_discrete place k)
            where
              by : Dec (place ≡ k) → m ≡ n
              by (no ne) = absurd (here ne)
              by (yes at_k) = sym (fits 0 m (subst (λ z. At (note_in (view p).own.notes z).words 0 (Some m)) at_k at)).0 ∙ told.saw.word
                where
                  fits : FitsNote s (note_in (view p).own.notes k) told.saw.body
                  fits = subst (λ (x : Origin). FitsBody s (near_of (view p) x) told.saw.body) (sym e) told.saw.fits

      -- after a step that leaves a link anew
      pub keeps_noting : (b : Bool) (n : ℕ) → (view q).setup ≡ (view p).setup → (view q).own.guard ≡ (view p).own.guard → (view q).own.notes ≡ noting b (view p).own.notes o 3 n → StartsWith (view q).seen_updates (view p).seen_updates → KeepsButLink o p q
      keeps_noting b n setup guard notes noted = keeps_by (λ place. Unit {0}) (λ place f. (f ≢ 0) ⊎ IsElsewhere o place) setup
          (λ h. same_at (λ place. Unit {0}) (view p).own.guard (view q).own.guard guard)
          (λ place f m here at. subst (λ (l : List Note). At (note_in l place).words f (Some m)) (sym notes) (noting_keeps b (view p).own.notes o n place f m (λ z at_place. ⊎_elim (λ ne. absurd (ne z)) (λ else. absurd (at_place else)) here) at))
          (λ place here. ap (λ (l : List Note). length (note_in l place).words) notes ∙ noting_long b (view p).own.notes o n place)
          (λ place here. ap (λ (l : List Note). (note_in l place).reached_at) notes ∙ noting_reached b (view p).own.notes o n place)
          noted

      -- an update that took effect is seen
      seen_then : (v : View) (call : Option Call) (updates : List Update) → StartsWith updates v.seen_updates → StartsWith (with_update updates (own_update v call)) v.seen_updates
      seen_then v call updates whole = starts_then v.seen_updates updates (with_update updates (own_update v call)) whole (more (own_update v call))
        where
          more : (u : Option Update) → StartsWith (with_update updates u) updates
          more None = starts_itself updates
          more (Some u) = starts_more updates (u ∷ [])

      pub keeps_exchange : {kind : StepKind} {locks : List LockedWord} (old new : LinkParts) (call : Option Call) → (view q).setup ≡ (view p).setup → LeftLink s (view p) kind o 3 old new call locks (view q) → KeepsButLink o p q
      keeps_exchange old new call setup told = keeps_noting _ _ setup (ap (λ (v : View). v.own.guard) told.view) (ap (λ (v : View). v.own.notes) told.view)
          (subst (λ (v : View). StartsWith v.seen_updates (view p).seen_updates) (sym told.view) (seen_then (view p) call told.updates told.whole.seen_updates))

      pub keeps_publish : {kind : StepKind} {locks : List LockedWord} (old : LinkParts) (own : RefParts) (call : Option Call) → (view q).setup ≡ (view p).setup → PublishedBy s (view p) kind o 3 old own call locks (view q) → KeepsButLink o p q
      keeps_publish old own call setup told = keeps_noting _ _ setup (ap (λ (v : View). v.own.guard) told.view) (ap (λ (v : View). v.own.notes) told.view)
          (subst (λ (v : View). StartsWith v.seen_updates (view p).seen_updates) (sym told.view) (seen_then (view p) call told.updates told.whole.seen_updates))

      pub keeps_unlink : {kind : StepKind} {locks : List LockedWord} (old : LinkParts) (gone : RefParts) (new : LinkParts) → (view q).setup ≡ (view p).setup → UnlinkedBy s (view p) kind o 3 old gone new locks (view q) → KeepsButLink o p q
      keeps_unlink old gone new setup told = keeps_noting _ _ setup (ap (λ (v : View). v.own.guard) told.view) (ap (λ (v : View). v.own.notes) told.view)
          (subst (λ (v : View). StartsWith v.seen_updates (view p).seen_updates) (sym told.view) told.whole.seen_updates)
