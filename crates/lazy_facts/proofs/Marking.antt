-- The lock of a held record becomes its mark: the removal is tied to it, and behind it the key is absent, and so is every one up to the target's.
use Rattle.std.proofs.Common.{◌≡◌, ℕ, ◌+◌, ◌%◌, ◌<◌, List, [], ◌∷◌, ◌++◌, length, length-append, max, set, false, Option, Some, sym, refl, ap, ◌∙◌, subst, arith, ⊎_elim}
use Rattle.atomic_table.proofs.Lists.{set_here}
use Rattle.set_model.specs.declared.calls.Call.{Call}
use Rattle.set_model.specs.declared.calls.Call.TheVariants.{Remove}
use Rattle.set_model.specs.declared.calls.Update.{Update}
use Rattle.row_words.specs.Refs.{RefParts, LinkParts}
use Rattle.row_words.specs.Packing.{IsLink}
use Rattle.record_memory.specs.declared.books.Setup.{Setup}
use Rattle.record_rule.specs.Inputs.{ShapeCell, linked, ShapeInput, Start, Trace}
use Rattle.record_rule.specs.Facts.{At, link_at, key_at, with_link, mark_bit, HasMark, Near, ShapeFacts, update_for}
use Rattle.record_rule.specs.Laws.{NodeIs, StartsFit, relinked, marked_after, grown}
use Rattle.record_rule.proofs.Lists.{below_at}
use Rattle.list_facts.specs.Lists.{ListFits}
use Rattle.list_facts.specs.Tellings.{ListTold}
use Rattle.list_facts.specs.Steps.{MayMark}
use Rattle.list_facts.proofs.Bodies.{clear_flags, marked_new, key_with_link}
use Rattle.list_facts.proofs.Nodes.{record_near, node_at, relinked_is}
use Rattle.list_facts.proofs.Present.{MarkedAs, marked_since}
use Rattle.list_facts.proofs.Told.{update, marked_any}
use Rattle.list_facts.proofs.Marking.{call_is, marks}
use Rattle.lazy_facts.specs.Absences.{IsSeen, MarkedLeadUp, AbsentAt, AbsencesFit}
use Rattle.lazy_facts.specs.Lazy.{lazy_flags, LazyFits, LazyTold}
use Rattle.lazy_facts.proofs.Targets.{seen_node}
use Rattle.lazy_facts.proofs.Keeping.{KeepsTargets, leads_kept, absent_kept}
use Rattle.lazy_facts.proofs.Absences.{linked_up, absent_now}

module _ {setup : Setup} {x : ShapeInput} {h : Trace} (fits : LazyFits setup x) (told : LazyTold setup x h) {s : ShapeFacts} (starts : StartsFit s x h) {near : Near} {f : ℕ} {old new : LinkParts} {call : Option Call} (n : NodeIs s x.cells near f old) (in_range : IsLink new)
    (may : MayMark 2 setup near f old new call) where
  -- the mark is new
  old_clear : ¬ HasMark old
  old_clear = clear_flags old 2 refl may.3

  -- the node's body with it
  abbrev body_after : List ℕ
  body_after = with_link n.body f n.generation new

  -- the position of the removal
  abbrev position : ℕ
  position = marked_after n.marked old new (length h.updates)

  -- the node's cell, and what it was
  abbrev cell_after : ShapeCell
  cell_after = linked n.generation body_after position

  at_node : At x.cells n.index (linked n.generation n.body n.marked)
  at_node = subst (At x.cells n.index) (record_near near n.generation n.marked n.body may.1) (node_at fits.lists n may.0 old_clear)

  -- the step leaves that cell
  left_is : relinked s x.cells near f old n new (length h.updates) ≡ cell_after
  left_is = relinked_is fits.lists n may.0 old_clear body_after position ∙ record_near near n.generation position body_after may.1

  -- the table with a cell there
  abbrev leaving : ShapeCell → ShapeInput
  leaving c = record x { cells = set x.cells n.index c }

  -- the cells afterwards
  abbrev cells_after : List ShapeCell
  cells_after = (leaving cell_after).cells

  -- no key changed
  targets : KeepsTargets x.cells cells_after
  targets i m body b t marked leads = subst (λ (c : ShapeCell). IsSeen (set x.cells n.index c) t b → (a : List ℕ) × IsSeen x.cells t a × (key_at a ≡ key_at b)) (record_near near n.generation position body_after may.1)
      (seen_node x.cells near n.index n.generation n.marked position n.body body_after (node_at fits.lists n may.0 old_clear) (key_with_link n.body f n.generation new may.0) t b)

  -- and the record that was marked is there
  here : At cells_after n.index cell_after
  here = set_here x.cells n.index cell_after (below_at x.cells n.index (linked n.generation n.body n.marked) at_node)

  module _ (u : Update) (lists : ListFits lazy_flags setup (leaving cell_after)) (list : ListTold (leaving cell_after) (grown h (Some u))) where
    -- its link leads up
    new_up : (i m : ℕ) (body b : List ℕ) (t : RefParts) → (i ≡ n.index) × MarkedAs cell_after body m → (link_at body 3).target ≡ Some t → IsSeen cells_after t b → (key_at b % setup.roots ≡ key_at body % setup.roots) × (key_at body < key_at b)
    new_up i m body b t (at, (mark, same, number)) = subst (λ (z : List ℕ). (link_at z 3).target ≡ Some t → IsSeen cells_after t b → (key_at b % setup.roots ≡ key_at z % setup.roots) × (key_at z < key_at b)) same
        (linked_up s lists n.index n.generation position body_after here b t)

    -- and each marked record's does
    mark_up : MarkedLeadUp setup cells_after
    mark_up i m body b t marked leads seen = ⊎_elim
        (λ p. new_up i m body b t (p.0, p.1) leads seen)
        (λ was. leads_kept setup x.cells cells_after targets fits.up i m body b t was leads seen)
        (marked_since x.cells n.index (linked n.generation n.body n.marked) cell_after at_node i m 0 body marked)

    -- what it shows is placed behind this removal, since no guard started in the future
    new_absent : (st : Start) → st.updates < length h.updates + 1 → (m : ℕ) (body : List ℕ) → MarkedAs cell_after body m → AbsentAt setup cells_after (h.updates ++ u ∷ []) st body m
    new_absent st before m body (mark, same, number) =
        let last : position ≡ length h.updates + 1 = marked_new n.marked (length h.updates) old new old_clear (ap mark_bit may.4) in
        let place : max st.updates position ≡ length (h.updates ++ u ∷ []) = omega (arith, last, before, length-append h.updates (u ∷ [])) in
        subst (AbsentAt setup cells_after (h.updates ++ u ∷ []) st body) number
        (subst (λ (z : List ℕ). AbsentAt setup cells_after (h.updates ++ u ∷ []) st z position) same (absent_now s lists n.index n.generation position body_after here list mark st place))

    -- what another one shows is placed where it was
    mark_absences : AbsencesFit setup cells_after (grown h (Some u))
    mark_absences c i m st body at marked = ⊎_elim
        (λ p. new_absent st (omega (arith, starts.updates c st at)) m body p.1)
        (λ was. absent_kept setup x.cells cells_after targets h.updates st i m body (marked_any was) (told.absences c i m st body at was) (Some u))
        (marked_since x.cells n.index (linked n.generation n.body n.marked) cell_after at_node i m st.taken_out body marked)

  -- so the mark keeps the facts of the list
  pub lazy_marks : (c number : ℕ) → LazyFits setup (leaving (relinked s x.cells near f old n new (length h.updates))) × LazyTold setup (leaving (relinked s x.cells near f old n new (length h.updates))) (grown h (update_for c number call))
  lazy_marks c number =
      let made = marks fits.lists told.list n in_range 2 refl may c number (omega arith) in
      let u : Update = update c number (key_at n.body) false in
      let called : call ≡ Some (Remove (key_at n.body)) = call_is fits.lists told.list n in_range 2 refl may in
      let lists : ListFits lazy_flags setup (leaving cell_after) = subst (λ (z : ShapeCell). ListFits lazy_flags setup (leaving z)) left_is made.0 in
      let list : ListTold (leaving cell_after) (grown h (Some u)) =
      subst (λ (q : Option Call). ListTold (leaving cell_after) (grown h (update_for c number q))) called (subst (λ (z : ShapeCell). ListTold (leaving z) (grown h (update_for c number call))) left_is made.1) in
      let fit : LazyFits setup (leaving cell_after) = record { lists = lists; up = mark_up u lists list } in
      let tied : LazyTold setup (leaving cell_after) (grown h (Some u)) = record { list = list; absences = mark_absences u lists list } in (
        subst (λ (z : ShapeCell). LazyFits setup (leaving z)) (sym left_is) fit,
        subst (λ (q : Option Call). LazyTold setup (leaving (relinked s x.cells near f old n new (length h.updates))) (grown h (update_for c number q))) (sym called)
            (subst (λ (z : ShapeCell). LazyTold setup (leaving z) (grown h (Some u))) (sym left_is) tied),
      )
