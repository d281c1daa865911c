-- Loads of a link with which a caller comes to hold what the link leads to.
use Rattle.std.proofs.Common.{◌++◌, ◌∷◌, [], length-append, ◌≡◌, ℕ, zero, suc, ◌+◌, ◌-◌, ◌<◌, ◌≤◌, List, length, replicate, get_or, set, Bool, true, false, cond, eqb, ◌&&◌, ◌⊎◌, sym, refl, ap, ◌∙◌, subst, arith, inl, inr, ⊎_elim, Option, Some, None}
use Rattle.std.specs.Prelude.{MatchOption}
use Rattle.std.proofs.lemmas.Bool.{eqb-false}
use Rattle.std.proofs.lemmas.List.{length-drop, length-map}
use mathlib.Core.Option.{some, some-injective, some-ne-none}
use lib.ListN.{get_elem?}
use Rattle.atomic_table.specs.Table.{State}
use Rattle.atomic_table.proofs.Lists.{at_set, at_map}
use Rattle.record_memory.specs.declared.steps.Word.TheVariants.{Field}
use Rattle.record_memory.specs.declared.steps.StepKind.TheVariants.{Load}
use Rattle.record_memory.specs.declared.steps.Step.{Step}
use Rattle.record_memory.specs.declared.books.Setup.{Setup}
use Rattle.record_memory.specs.declared.books.View.{View}
use Rattle.record_memory.specs.declared.books.Guard.{Guard}
use Rattle.record_memory.specs.declared.books.Note.{Note}
use Rattle.record_memory.specs.declared.books.Place.{Place}
use Rattle.record_memory.specs.Memory.{memory, address}
use Rattle.row_words.specs.Refs.{RefParts, LinkParts, refer}
use Rattle.row_words.specs.Packing.{link_in}
use Rattle.record_rule.specs.Records.{IsSetup, IsLinkField}
use Rattle.record_rule.specs.Inputs.{ShapeCell, Start, linked, out, shape_cell, reachable, birth, scheme_at, scheme_cell, guard_of, Outline, shape_input, start_of, trace, scheme_input}
use Rattle.record_rule.specs.Facts.{of_root, of_held, At, word_in, link_at, mark_bit, HasMark, at_held, ShapeFacts, FitsNote, FitsNear, is_linked, is_out, Moment, Reach, CoverFacts}
use Rattle.record_rule.specs.Held.{HeldFits}
use Rattle.record_rule.specs.Known.{KnownFits}
use Rattle.record_rule.specs.Opening.{no_note}
use Rattle.record_rule.specs.Laws.{HoldsOnly, StartsIf, LeadsTo, NodeIs, TargetSeen, there, there_out, ShapeLaws, moment, with_guard, IsSafe, CoverLaws}
use Rattle.record_rule.specs.World.{IsRecent, Rule}
use Rattle.record_rule.specs.Kinds.{Lawful}
use Rattle.record_rule.specs.Links.{roots_kept, Origin, index_of, generation_at, near_of, Holds, node_step, seeing, target_of, settled_word, note_of, IsFound, ReachedTarget, ReachedLink}
use Rattle.record_rule.proofs.Lists.{below_at, map_at, at_replicate}
use Rattle.record_rule.proofs.Safe.{linked_place, safe}
use Rattle.record_rule.proofs.Steps.{before, given, book, are_whole, recent_now}
use Rattle.record_rule.proofs.Recents.{starts_by, recent_reached}
use Rattle.record_rule.proofs.HeldMoves.{HasBody, IsThereFrom, IsSeen, held_reached}
use Rattle.record_rule.proofs.Nodes.{body_at, NodeOf, own_held, node_of, node_with, found_word, found_link, found_own, node_finds}
use Rattle.record_rule.proofs.LinkLoads.{nothing_seen, own_known, ToldStart, told_same, book_after, rule_after, saw_link}

-- a link that leads to something to hold has no mark
held_target : (l : LinkParts) (t : RefParts) → target_of l ≡ Some t → (¬ HasMark l) × (l.target ≡ Some t)
held_target l t h = by (eqb (mark_bit l) 1) refl h
  where
    by : (b : Bool) → eqb (mark_bit l) 1 ≡ b → cond b None l.target ≡ Some t → (¬ HasMark l) × (l.target ≡ Some t)
    by true e h = let none : ⊥ = cc in absurd none
    by false e h = (eqb-false (mark_bit l) 1 e, h)

-- a note of nothing has no word
nothing_noted : (k f n : ℕ) → At (replicate k None) f (Some n) → ⊥
nothing_noted k f n e = let h : None ≡ Some n = (at_replicate k f None (Some n) e).1 in cc

-- a new note keeps nothing
blank_kept : (s : ShapeFacts) (b : Option (List ℕ)) (n : ℕ) → (note_of s b n).kept ≡ []
blank_kept s None n = refl
blank_kept s (Some b) n = refl

module _ (s : ShapeFacts) where
  -- what is noted of a body at once is settled
  word_settled : (body : List ℕ) (g n : ℕ) → settled_word s body g ≡ Some n → (word_in body g ≡ n) × (s.settled g body ≡ true)
  word_settled body g n h = by (s.settled g body) refl h
    where
      by : (b : Bool) → s.settled g body ≡ b → cond b (Some (word_in body g)) None ≡ Some n → (word_in body g ≡ n) × (s.settled g body ≡ true)
      by true e h = let same : word_in body g ≡ n = cc in (same, e)
      by false e h = let none : ⊥ = cc in absurd none

  -- so the new note fits
  note_fits : (body : List ℕ) (updates : ℕ) → FitsNote s (note_of s (Some body) updates) body
  note_fits body updates zero n e = word_settled body 3 n (some-injective (settled_word s body 3) (Some n) e)
  note_fits body updates (suc zero) n e = word_settled body 4 n (some-injective (settled_word s body 4) (Some n) e)
  note_fits body updates (suc (suc zero)) n e = word_settled body 5 n (some-injective (settled_word s body 5) (Some n) e)
  note_fits body updates (suc (suc (suc zero))) n e = word_settled body 6 n (some-injective (settled_word s body 6) (Some n) e)
  note_fits body updates (suc (suc (suc (suc zero)))) n e = word_settled body 7 n (some-injective (settled_word s body 7) (Some n) e)
  note_fits body updates (suc (suc (suc (suc (suc f))))) n e = absurd (some-ne-none (Some n) (sym e))

module _ (shape : ShapeFacts) (cover : CoverFacts) (shaped : ShapeLaws shape) (setup : Setup) (s : State (Unit {0}) View) (u : Rule shape cover setup s) where
  -- what the facts read
  abbrev now : Outline
  now = before shape cover setup s u

  -- a reclaimer sees what is reached there
  abbrev IsReachable : RefParts → Type 0
  IsReachable t = (b : ℕ) × (0 < t.index) × At now.schemes (t.index - 1) (reachable t.generation b)

  -- as it does where a set sees a linked record
  pub linked_reachable : (t : RefParts) → LeadsTo now.shapes t → IsReachable t
  linked_reachable t x = let r = map_at shape_cell u.records (t.index - 1) (linked t.generation x.0 x.1) x.3 in let p = linked_place t.generation x.1 x.0 r.0.place r.0 r.2 in
      (birth r.0, x.2, at_map scheme_cell u.records (t.index - 1) r.0 r.1 ∙ ap some (ap (λ (z : Place). scheme_at z r.0) p.0 ∙ ap (λ (e : ℕ). reachable e (birth r.0)) p.1))

  -- the key of a record that a set sees is settled
  key_seen : (i generation m : ℕ) (body : List ℕ) (cell : ShapeCell) → At now.shapes i cell → HasBody cell generation body m → FitsNear shape now.shapes (at_held (refer (i + 1) generation) no_note) i generation body m → shape.settled 4 body ≡ true
  key_seen i generation m body cell at has fits = let r = map_at shape_cell u.records i cell at in let b = body_at generation m body r.0.place r.0 (subst (λ (c : ShapeCell). HasBody c generation body m) (sym r.2) has) in
      let long : length body ≡ 5 = (let e = (u.places.sound i r.0 r.1).eight in let l = length-drop 3 r.0.row in let same = ap length b.body_is in omega arith) in
      shaped.keys_stand setup (shape_input now) (at_held (refer (i + 1) generation) no_note) 4 (link_at body 4) u.parts.shape record {
        index = i;
        cell = cell;
        at = at;
        generation = generation;
        body = body;
        long = long;
        marked = m;
        fits = fits;
        word = refl;
      }

  -- what is linked, or was taken out at this number or later
  abbrev pub StandsFrom : ℕ → RefParts → Type 0
  StandsFrom start t = IsThereFrom now.shapes u.taken_out start t

  -- a linked record is, whatever the number
  pub linked_from : (start : ℕ) (t : RefParts) → LeadsTo now.shapes t → StandsFrom start t
  linked_from start t x = record { body = x.0; marked = x.1; some_index = x.2; at = inl x.3; was_linked = inl x }

  -- its key is settled
  key_settled : (start : ℕ) (t : RefParts) (x : StandsFrom start t) → shape.settled 4 x.body ≡ true
  key_settled start t x = let i : ℕ = t.index - 1 in ⊎_elim
      (λ y. key_seen i t.generation x.marked x.body (linked t.generation x.body x.marked) y refl (is_linked i t.generation x.marked x.body no_note y (λ f n e. absurd (nothing_noted 5 f n e))))
      (λ y. key_seen i t.generation x.marked x.body (out t.generation x.body x.marked y.0) y.2 refl (is_out i t.generation x.marked y.0 x.body no_note y.2 (λ f n e. absurd (nothing_noted 5 f n e)))) x.at

  -- so the caller may hold it with what it notes of it
  there_seen : (start : ℕ) (t : RefParts) (x : StandsFrom start t) → IsSeen shape now.shapes u.taken_out start (note_of shape (Some x.body) (length u.updates)) t
  there_seen start t x = record {
    is = x;
    fits = note_fits shape x.body (length u.updates);
    key_word = word_in x.body 4;
    keyed = ap (λ (b : Bool). some (cond b (Some (word_in x.body 4)) None)) (key_settled start t x);
  }

  -- what a load comes to: the body of what the caller holds then, by a guard that started at this number
  pub record ComesTo (l : LinkParts) (t : Option RefParts) (start : ℕ) : Type 0 where
    pub target : Option (List ℕ)
    pub found : IsFound t target
    pub seen : TargetSeen shape now.shapes l.target target
    pub held : (w : RefParts) → t ≡ Some w → IsSeen shape now.shapes u.taken_out start (note_of shape target (length u.updates)) w

  -- it does where that is the link's target and stands there
  pub comes_to : (l : LinkParts) (t : Option RefParts) (start : ℕ) → ((w : RefParts) → t ≡ Some w → (l.target ≡ Some w) × StandsFrom start w) → ComesTo l t start
  comes_to l None start leads = record {
    target = None;
    found = refl;
    seen = nothing_seen shape now.shapes l.target;
    held = λ w e. let none : ⊥ = cc in absurd none;
  }
  comes_to l (Some t) start leads = let h = leads t refl in let x = h.1 in record {
    target = Some x.body;
    found = (x.body, refl);
    seen = subst (λ (z : Option RefParts). TargetSeen shape now.shapes z (Some x.body)) (sym h.0) (⊎_elim (λ y. there t x.body x.marked y) (λ y. there_out t x.body x.marked y.0 y.2) x.at);
    held = λ w e. let same : t ≡ w = cc in subst (IsSeen shape now.shapes u.taken_out start (note_of shape (Some x.body) (length u.updates))) same (there_seen start t x);
  }

  -- where it is linked a reclaimer sees it so
  pub leads_reachable : (t : Option RefParts) → ((w : RefParts) → t ≡ Some w → LeadsTo now.shapes w) → MatchOption t (Unit {0}) IsReachable
  leads_reachable None leads = tt
  leads_reachable (Some t) leads = linked_reachable t (leads t refl)

  module _ (id : ℕ) (v : View) (at : get_elem? s.views id ≡ some v) (present : v.present ≡ true) where
    -- what was kept of what is held still, and nothing of what is new
    known_reached : (g : Guard) (q : Reach) (t : Option RefParts) (note : Note) → note.kept ≡ [] → HoldsOnly g v.own.guard q.place t → ((r : RefParts) → At g.holds q.place (Some r) → t ≡ Some r) → (first : Bool) → (first ≡ false → start_of g ≡ start_of v.own.guard)
        → KnownFits shape setup (shape_input now) u.updates g (set v.own.notes q.place note) (roots_kept first v.own.root_notes)
    known_reached g q t note blank only here first again = record {
      held = λ p r n hold ent. ⊎_elim
          (λ y. subst (λ (z : List ℕ). shape.knows setup (shape_input now) u.updates (start_of g) (of_held r z)) (sym blank ∙ ap (λ (z : Note). z.kept) y.1) (shaped.nothing setup (shape_input now) u.updates (start_of g) r))
          (λ y. ⊎_elim (λ a. subst (λ (z : Start). shape.knows setup (shape_input now) u.updates z (of_held r n.kept)) a.1 ((own_known shape cover setup s u id v at present).held p r n a.0 y.1)) (λ a. absurd (y.0 a.0)) (only p r hold))
          (at_set v.own.notes q.place p note n ent);
      root = root_by first refl;
    }
      where
        root_by : (b : Bool) → first ≡ b → (n : ℕ) (l : List ℕ) → At (roots_kept b v.own.root_notes) n l → shape.knows setup (shape_input now) u.updates (start_of g) (of_root n l)
        root_by true e n l ent = absurd (some-ne-none l (sym ent))
        root_by false e n l ent = subst (λ (z : Start). shape.knows setup (shape_input now) u.updates z (of_root n l)) (sym (again e)) ((own_known shape cover setup s u id v at present).root n l ent)

    -- where the guard starts once the link was followed is known
    told_reached : (b : Bool) (g : Guard) (step : ℕ) → StartsIf b (moment (scheme_input now) (length u.updates)) step v.own.guard g → ToldStart shape cover setup s u id v at present (start_of g)
    told_reached true g step start = let same : record { taken_out = length u.taken_out; updates = length u.updates } ≡ start_of g = λ k. record { taken_out = sym start.taken_out k; updates = sym start.updates k } in
        subst (ToldStart shape cover setup s u id v at present) same (shaped.begins setup (shape_input now) (trace now) v.own.caller (given shape cover setup s u))
    told_reached false g step start = told_same shape cover setup s u id v at present g (λ k. record { taken_out = start.taken_out k; updates = start.updates k })

-- what is there is one of the records
there_below : (cells : List ShapeCell) (taken_out : List RefParts) (start : ℕ) (t : RefParts) (x : IsThereFrom cells taken_out start t) → t.index - 1 < length cells
there_below cells taken_out start t x = ⊎_elim (λ y. below_at cells (t.index - 1) (linked t.generation x.body x.marked) y) (λ y. below_at cells (t.index - 1) (out t.generation x.body x.marked y.0) y.2) x.at

-- a guard started at a step that was made, and when it did where it doesn't start now
step_by : (b : Bool) (m : Moment) (step bound : ℕ) (g new : Guard) → StartsIf b m step g new → step ≤ bound → g.start_step ≤ bound → new.start_step ≤ bound
step_by true m step bound g new start now before = let e = start.step_is in omega arith
step_by false m step bound g new start now before = let e = start.step in omega arith

taken_by : (b : Bool) (m : Moment) (step : ℕ) (g new : Guard) → StartsIf b m step g new → (new.start_taken_out ≡ g.start_taken_out) ⊎ (new.start_taken_out ≡ m.taken_out)
taken_by true m step g new start = inr start.taken_out
taken_by false m step g new start = inl start.taken_out

pub again_by : (b : Bool) (m : Moment) (step : ℕ) (g new : Guard) → StartsIf b m step g new → b ≡ false → start_of new ≡ start_of g
again_by true m step g new start e = let none : ⊥ = cc in absurd none
again_by false m step g new start e = λ k. record { taken_out = start.taken_out k; updates = start.updates k }

-- a caller loads word f of its node, which lies there, to reach what it leads to
pub record IsReachStep (cover : CoverFacts) (setup : Setup) (word f : ℕ) (v : View) (o : Origin) (q : Reach) : Type 0 where
  pub present : v.present ≡ true
  pub same : v.setup ≡ setup
  pub word_is : word ≡ address setup.callers (Field (index_of o) f)
  pub low : 3 ≤ f
  pub below : f < 8
  pub field : IsLinkField f
  pub hold : Holds v o
  pub may : cover.may_reach v.own.guard q
  pub step : q.step ≡ length v.own.steps + 1

module _ (shape : ShapeFacts) (cover : CoverFacts) (shaped : ShapeLaws shape) (covering : CoverLaws cover) (setup : Setup) (is_setup : IsSetup setup) (id word f : ℕ) (v : View) (o : Origin) (q : Reach) (a : IsReachStep cover setup word f v o q) where
  module _ (s : State (Unit {0}) View) (u : Rule shape cover setup s) (at : get_elem? s.views id ≡ some v) where
    abbrev pub x : Outline
    x = before shape cover setup s u

    -- the word that it finds
    abbrev pub k : ℕ
    k = get_or s.words word 0

    abbrev pub link : LinkParts
    link = link_in k

    -- its node
    abbrev pub n : NodeOf shape cover setup is_setup s u id v at a.present o
    n = node_of shape cover setup is_setup s u id v at a.present o a.hold

    pub found : k ≡ get_or n.node.row f 0
    found = found_word shape cover setup is_setup s u id v at a.present o n word f a.word_is a.below

    -- as the laws of a set take it
    abbrev pub node : NodeIs shape x.shapes (near_of v o) f link
    node = node_with shape cover setup is_setup s u id v at a.present o n f link a.low (ap link_in (sym found))

    -- the caller's guard once it has reached this
    abbrev pub guard_then : Option RefParts → Guard
    guard_then t = cover.reached (moment (scheme_input x) (length u.updates)) v.own.guard q t

    -- as the reclaimer's laws take it
    abbrev pub may_use : IsSafe setup (scheme_input x)
    may_use = safe shape cover setup u.records u.books u.taken_out u.updates (memory setup.callers setup.records s.words) u.places u.parts

    abbrev pub guard_at : At x.guards v.own.caller v.own.guard
    guard_at = at_map guard_of u.books v.own.caller v.own (book shape cover setup s u id v at a.present)

    -- The rule after a load by which the caller came to this, and what its pass knows
    pub reached_target : (t : Option RefParts) → ComesTo shape cover shaped setup s u link t (guard_then t).start_taken_out → cover.covered setup (with_guard (scheme_input x) v.own.caller (guard_then t))
        → (w : View) × Rule shape cover setup record { words = set s.words word k; homes = s.homes; views = set s.views id w } × ReachedTarget shape cover v o f q t k w
    reached_target t came covered = let step : Step = node_step v Load o f k k in let time : Moment = moment (scheme_input x) (length u.updates) in let g : Guard = guard_then t in let has = covering.reached time v.own.guard q t a.may in
        let b : Bool = cover.begins_loading && q.first in let note : Note = note_of shape came.target (length u.updates) in let notes : List Note = set v.own.notes q.place note in
        let own = own_held shape cover setup is_setup s u id v at a.present in let blank = blank_kept shape came.target (length u.updates) in
        let held : HeldFits shape cover.places x.shapes u.taken_out g notes = held_reached shape cover.places x.shapes u.taken_out v.own.guard g v.own.notes q.place t note own has.holds has.only came.held has.many (taken_by b time q.step v.own.guard g has.start) blank has.waits in
        let recent_before = recent_now shape cover setup s u id v at a.present in
        let recent : IsRecent (length u.updates) (length u.taken_out) g notes = recent_reached time v.own.guard g q.place t v.own.notes shape came.target came.found has.holds has.only has.waits
        (starts_by b time q.step v.own.guard g has.start recent_before.updates_since recent_before.taken_since) recent_before in (
          seeing v u.updates u.taken_out (book_after shape cover setup s u id v at a.present step g notes (roots_kept b v.own.root_notes)),
          rule_after shape cover setup s u id v at a.present word step (node_finds shape cover setup is_setup s u id v at a.present o n Load word f a.word_is a.below (inl refl)) (λ e. cc) g notes (roots_kept b v.own.root_notes) tt
              recent has.words (λ h. let l = length-append v.own.steps (step ∷ []) in let e = a.step in step_by b time q.step (length (v.own.steps ++ step ∷ [])) v.own.guard g has.start (omega arith) (omega arith)) held
              (known_reached shape cover shaped setup s u id v at a.present g q t note blank has.holds has.only b (again_by b time q.step v.own.guard g has.start))
              (told_reached shape cover shaped setup s u id v at a.present b g q.step has.start) covered,
          record {
            whole = are_whole shape cover setup s u id v at a.present;
            target = came.target;
            found = came.found;
            within = λ w e. let h = (came.held w e).is in let below = there_below x.shapes u.taken_out g.start_taken_out w h in let l = length-map u.records shape_cell in let m = u.places.many in let p = h.some_index in let z = ap (λ (y : Setup). y.records) a.same in omega arith;
            many = own.many;
            noted = own.noted;
            late = u.start_made v.own.caller v.own (book shape cover setup s u id v at a.present);
            saw = saw_link shape cover setup s u id v at a.present is_setup o shaped a.same n f k a.low found came.target came.seen;
            link = found_link shape cover setup is_setup s u id v at a.present o n f k a.field found;
            own = found_own shape cover setup is_setup s u id v at a.present o n word f a.word_is a.below ∙ ap (λ (z : Setup). generation_at z o) (sym a.same);
            epoch = x.epoch;
            view = refl;
          },
        )

  -- A caller may load a link of its node and then hold what it leads to
  pub reaches_link : shape.may_hold (near_of v o) f → Lawful (Rule shape cover setup) id v word (λ n. n) (λ n w. ReachedLink shape cover v o f q n w)
  reaches_link may_hold s u at = let l : LinkParts = link s u at in let t : Option RefParts = target_of l in
      let leads : (w : RefParts) → t ≡ Some w → (l.target ≡ Some w) × LeadsTo (before shape cover setup s u).shapes w = λ w e. let h = held_target l w e in (h.1, shaped.reaches setup (shape_input (before shape cover setup s u)) (near_of v o) f l w u.parts.shape (node s u at) may_hold h.0 h.1) in
      reached_target s u at t (comes_to shape cover shaped setup s u l t (guard_then s u at t).start_taken_out (λ w e. let h = leads w e in (h.0, linked_from shape cover shaped setup s u (guard_then s u at t).start_taken_out w h.1)))
      (covering.reaches setup (scheme_input (before shape cover setup s u)) v.own.caller (length u.updates) v.own.guard q t (may_use s u at) u.parts.scheme (guard_at s u at) a.may (leads_reachable shape cover shaped setup s u t (λ w e. (leads w e).1)))
