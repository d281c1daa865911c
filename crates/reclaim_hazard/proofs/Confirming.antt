-- A link that is loaded, its target named, and the link loaded again: what both loads show, what is held then, and the steps that were made.
use Rattle.std.proofs.Common.{◌≡◌, ◌≢◌, ℕ, ◌+◌, ◌<◌, ◌≤◌, List, [], ◌∷◌, ◌++◌, length, length-append, set, get_or-set_same, Bool, false, cond, eqb, Option, Some, None, sym, refl, ap, ◌∙◌, subst, arith}
use Rattle.std.proofs.lemmas.Bool.{eq-eqb}
use Rattle.atomic_table.proofs.Lists.{set_here}
use Rattle.set_model.specs.declared.calls.Update.{Update}
use Rattle.record_memory.specs.declared.books.Setup.{Setup}
use Rattle.record_memory.specs.declared.books.Guard.{Guard}
use Rattle.record_memory.specs.declared.books.View.{View}
use Rattle.record_memory.specs.declared.steps.Step.{Step}
use Rattle.record_memory.specs.declared.steps.StepKind.TheVariants.{Load}
use Rattle.row_words.specs.Refs.{RefParts, LinkParts}
use Rattle.row_words.specs.Packing.{packed_ref, packed_link, link_in, IsTarget, IsPackedLink}
use Rattle.row_words.proofs.Packed.{link_is_packed, link_in-packed_link, packed_ref_same}
use Rattle.record_rule.specs.Facts.{At, mark_bit, Moment, Reach, ShapeFacts}
use Rattle.record_rule.specs.Kinds.{idle}
use Rattle.record_rule.specs.Links.{Origin, generation_at, node_step, target_of, AreWhole, ReachedLink}
use Rattle.record_rule.proofs.Rebuilt.{starts_then}
use Rattle.record_table.specs.declared.passes.Pass.{Pass}
use Rattle.record_table.specs.declared.nodes.Held.{Held as HeldThere}
use Rattle.record_table.specs.declared.nodes.Node.{Node}
use Rattle.record_table.specs.Handles.{view, since}
use Rattle.record_table.specs.Nodes.{origin, HasStarted, HoldsThere, reach_at}
use Rattle.guard_facts.specs.Announcing.{word_of}
use Rattle.cover_facts.proofs.KeepingLaws.{none_laws}
use Rattle.hazard_facts.specs.Pointers.{hazard, named_by}
use Rattle.hazard_facts.proofs.Reaching.{named_is, has_reached}
use Rattle.reclaim_api.specs.declared.holding.Holding.{Holding}
use Rattle.reclaim_api.specs.declared.holding.Holding.TheVariants.{Null, Held, Marked, Moved}
use Rattle.reclaim_api.specs.Holds.{IsElsewhere, HasSeen, HoldsNothing, HasReached}
use Rattle.reclaim_api.proofs.Reaching.{marked_none, holds_nothing}
use Rattle.reclaim_api.specs.StepForms.{word_store}
use Rattle.reclaim_hazard.specs.Running.{ConfirmsWith, Confirms}
use Rattle.reclaim_hazard.specs.Steps.{stored_own, HasLoadedAgain, AnswersBy}
use Rattle.reclaim_hazard.proofs.Seeing.{near_same, has_seen}
use Rattle.reclaim_hazard.proofs.Loads.{has_started, note_else, start_seen, words_still}
use Rattle.reclaim_hazard.proofs.Leaving.{three}

-- a link's target is in range
target_fits : (word : ℕ) → IsPackedLink word → IsTarget (link_in word).target
target_fits word p = subst (λ (l : LinkParts). IsTarget l.target) (sym (ap link_in p.packed ∙ link_in-packed_link p.own p.link p.in_range)) p.in_range.target

module _ (s : ShapeFacts) {S R : Type 0} (p then q : Pass S R) (o : Origin) (place n : ℕ) (told : ReachedLink s hazard (view p) o 3 (reach_at p place) n (view then)) (same : since then ≡ since p)
    (later : length (since p).own.steps ≤ length (view p).own.steps) (target : RefParts) (again : LinkParts) (h : HasLoadedAgain s (view then) o place target again (view q)) (goes_on : since q ≡ since then) where
  -- what was known at the second load
  abbrev at_load : View
  at_load = stored_own (view then) place (packed_ref (Some target)) h.named

  -- the guard goes on
  guard_is : (view q).own.guard ≡ record at_load.own.guard { holds = (view q).own.guard.holds }
  guard_is = let e = ap (λ (v : View). v.own.guard) h.told.view in e ∙ (λ k. record at_load.own.guard { holds = ap (λ (g : Guard). g.holds) (sym e) k })

  goes_started : HasStarted q
  goes_started = subst (λ (x : View × Guard). length x.0.own.steps < x.1.start_step) (λ k. (sym goes_on k, sym guard_is k)) (has_started s p then o place n told same later)

  -- all that was seen begins what is seen now
  whole : AreWhole (view p) (view q).seen_updates (view q).seen_taken_out
  whole = record {
    front = subst (λ (l : List Update). (rest : List Update) × ((view q).seen_updates ≡ l ++ rest)) (ap (λ (v : View). v.front) told.view) h.told.whole.front;
    seen_updates = starts_then (view p).seen_updates (view then).seen_updates (view q).seen_updates told.whole.seen_updates h.told.whole.seen_updates;
    seen_taken_out = starts_then (view p).seen_taken_out (view then).seen_taken_out (view q).seen_taken_out told.whole.seen_taken_out h.told.whole.seen_taken_out;
    recent = told.whole.recent;
  }

  abbrev loads : Origin → ℕ → ℕ → Step
  loads x f m = node_step (view p) Load x f m m

  -- one load, the store, and one load more
  made : (view q).own.steps ≡ (view p).own.steps ++ loads o 3 n ∷ word_store (view p).own place (packed_ref (Some target)) h.named ∷ loads o 3 h.word ∷ []
  unfolding idle
  made = ap (λ (v : View). v.own.steps) h.told.view ∙ ap (λ (v : View). (stored_own v place (packed_ref (Some target)) h.named).own.steps ++ node_step (stored_own v place (packed_ref (Some target)) h.named) Load o 3 h.word h.word ∷ []) told.view
      ∙ three (view p).own.steps (loads o 3 n ∷ []) (word_store (view p).own place (packed_ref (Some target)) h.named ∷ []) (loads o 3 h.word ∷ [])

  setup_is : at_load.setup ≡ (view p).setup
  setup_is = ap (λ (v : View). v.setup) told.view

  module _ (elsewhere : IsElsewhere o place) (low : place < 3) where
    seen : (link : LinkParts) → link_in h.word ≡ link → HasSeen s place o p q link
    seen link e = has_seen s hazard p q at_load o (record { place = place; first = false; step = length (view then).own.steps + 2 }) h.word h.told whole setup_is
        (near_same (view then) at_load o place (λ other ne. refl) elsewhere ∙ near_same (view p) (view then) o place (note_else s p then o place n told same later) elsewhere) low goes_started
        (subst (λ (g : Guard). g.start_updates ≤ length (view q).seen_updates) (sym guard_is) (let a = start_seen s p then o place n told same later in
        let e = ap (λ (l : List Update). length l) h.told.whole.seen_updates.1 in let f = length-append (view then).seen_updates h.told.whole.seen_updates.0 in omega arith)) link e

    -- the word names the target, so that it is held where the link leads to it
    word_named : length (view p).own.guard.announced ≡ 4 → word_of at_load.own.guard place ≡ packed_ref (Some target)
    word_named four = get_or-set_same (view then).own.guard.announced place (packed_ref (Some target)) 0 (let e = ap (λ (l : List ℕ). length l) (words_still s p then o place n told same later) in omega arith)

    module _ (four : length (view p).own.guard.announced ≡ 4) (clear : mark_bit (link_in h.word) ≡ 0) (to : (link_in h.word).target ≡ Some target) where
      leads : target_of (link_in h.word) ≡ Some target
      leads = ap (λ (b : ℕ). cond (eqb b 1) None (link_in h.word).target) clear ∙ to

      named : named_by at_load.own.guard place (target_of (link_in h.word)) ≡ Some target
      named = ap (named_by at_load.own.guard place) leads ∙ ap (λ (b : Bool). cond b (Some target) None) (eq-eqb (word_of at_load.own.guard place) (packed_ref (Some target)) (word_named four))

      holds_there : HoldsThere q (record { place = place; target = target })
      holds_there = record {
        started = goes_started;
        within = let w = h.told.within target leads in subst (λ (v : View). target.index ≤ v.setup.records) (sym h.told.view) w;
        holds = subst (λ (g : Guard). At g.holds place (Some target)) (sym (ap (λ (v : View). v.own.guard) h.told.view ∙ ap (λ (t : Option RefParts). record at_load.own.guard { holds = set at_load.own.guard.holds place t; pending = None }) named))
            (set_here at_load.own.guard.holds place (Some target) (let m = h.told.many in omega arith));
      }

    -- where it leads elsewhere, or nowhere, the place holds nothing
    module _ (four : length (view p).own.guard.announced ≡ 4) (clear : mark_bit (link_in h.word) ≡ 0) (leads_to : (link_in n).target ≡ Some target) (other : (link_in h.word).target ≢ Some target) where
      moved_nothing : HoldsNothing place q
      moved_nothing r at =
          let m : Moment = record { epoch = h.told.epoch; taken_out = length (view q).seen_taken_out; updates = length (view q).seen_updates } in let reach : Reach = record { place = place; first = false; step = length (view then).own.steps + 2 } in
          let t = target_of (link_in h.word) in let low_place : place < 8 = omega (arith, low) in
          let named : named_by at_load.own.guard place t ≡ Some r = (none_laws.reached m at_load.own.guard reach (named_by at_load.own.guard place t) low_place).only r (subst (λ (g : Guard). At g.holds place (Some r)) (ap (λ (v : View). v.own.guard) h.told.view) at) in
          let is = named_is at_load.own.guard place t r named in
          let led : (link_in h.word).target ≡ Some r = sym (ap (λ (b : ℕ). cond (eqb b 1) None (link_in h.word).target) clear) ∙ is.0 in
          let same : Some r ≡ Some target = packed_ref_same (Some r) (Some target) (subst IsTarget led (target_fits h.word h.told.link)) (subst IsTarget leads_to (target_fits n told.link)) (sym is.1 ∙ word_named four) in
          other (led ∙ same)

    -- so the second link tells the answer
    module _ (own : ℕ) (first : LinkParts) (first_is : first ≡ link_in n) (clear : mark_bit first ≡ 0) (leads_to : first.target ≡ Some target) where
      pub confirmed_reached : length (view p).own.guard.announced ≡ 4 → (r : Holding) → AnswersBy own again (record { place = place; target = target }) r → HasReached s place o p r q
      confirmed_reached four Null a = absurd a
      confirmed_reached four (Held x) a = let c : mark_bit (link_in h.word) ≡ 0 = sym (ap mark_bit h.again_is) ∙ a.0 in let t : (link_in h.word).target ≡ Some target = sym (ap (λ (l : LinkParts). l.target) h.again_is) ∙ a.1 in
          subst (λ (z : HeldThere). HasReached s place o p (Held z) q) (sym a.2) (holds_there four c t, refl, (link_in h.word, c, t, seen (link_in h.word) refl))
      confirmed_reached four (Marked m) a = (
        ap mark_bit a.1 ∙ a.0,
        seen m (sym h.again_is ∙ sym a.1),
        holds_nothing s hazard q at_load o (record { place = place; first = false; step = length (view then).own.steps + 2 }) _ h.word h.told (λ time t. has_reached time at_load.own.guard _ t low) (marked_none h.word (sym (ap mark_bit h.again_is) ∙ a.0)),
      )
      confirmed_reached four (Moved m) a = moved_nothing four (sym (ap mark_bit h.again_is) ∙ a.0) (sym (ap (λ (l : LinkParts). l.target) first_is) ∙ leads_to) (λ e. a.1 (ap (λ (l : LinkParts). l.target) h.again_is ∙ e))

      -- one word for one link under one generation
      word_from : own ≡ generation_at (view p).setup o → h.word ≡ packed_link own again
      word_from is = sym (link_is_packed h.word h.told.link) ∙ (λ k. packed_link ((h.told.own ∙ ap (λ (x : Setup). generation_at x o) setup_is ∙ sym is) k) (sym h.again_is k))

      answers : own ≡ generation_at (view p).setup o → (r : Holding) → AnswersBy own again (record { place = place; target = target }) r → ConfirmsWith place target h.word r
      answers is Null a = a
      answers is (Held x) a = (sym (ap mark_bit h.again_is) ∙ a.0, sym (ap (λ (l : LinkParts). l.target) h.again_is) ∙ a.1, ap (λ (z : HeldThere). z.place) a.2, ap (λ (z : HeldThere). z.target) a.2)
      answers is (Marked m) a = (sym (ap mark_bit h.again_is) ∙ a.0, a.1 ∙ h.again_is)
      answers is (Moved m) a = (sym (ap mark_bit h.again_is) ∙ a.0, (λ e. a.1 (ap (λ (l : LinkParts). l.target) h.again_is ∙ e)), a.2 ∙ sym (word_from is))

      pub confirmed_steps : (from : Node) (field : ℕ) → o ≡ origin from → field ≡ 3 → own ≡ generation_at (view p).setup o → (r : Holding) → AnswersBy own again (record { place = place; target = target }) r → Confirms place from field (view p).own r (view q).own
      confirmed_steps from field at three_is is r a = record {
        found = n;
        target = target;
        clear = sym (ap mark_bit first_is) ∙ clear;
        leads = sym (ap (λ (l : LinkParts). l.target) first_is) ∙ leads_to;
        named = h.named;
        again = h.word;
        steps = made ∙ (λ k. (view p).own.steps ++ loads (at k) (sym three_is k) n ∷ word_store (view p).own place (packed_ref (Some target)) h.named ∷ loads (at k) (sym three_is k) h.word ∷ []);
        answer = answers is r a;
      }
