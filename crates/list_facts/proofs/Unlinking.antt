-- The record that a node leads to is taken off the node's link: the lists are still sorted, and what ties them to the history stays.
use Rattle.std.proofs.Common.{◌≡◌, ◌≢◌, ℕ, ◌+◌, ◌-◌, ◌<◌, List, [], ◌∷◌, ◌++◌, length, length-append, set, ◌⊎◌, inl, inr, ⊎_elim, Some, None, sym, refl, ap, ◌∙◌, subst, arith}
use Rattle.std.proofs.lemmas.Bool.{eq-eqb}
use native.Mathlib.Decide.{ℕ_discrete}
use Rattle.atomic_table.proofs.Lists.{at_set, set_else, at_longer, at_last}
use Rattle.row_words.specs.Refs.{RefParts, LinkParts, refer}
use Rattle.row_words.specs.Packing.{packed_link, link_in, IsLink}
use Rattle.row_words.proofs.Packed.{link_in-packed_link}
use Rattle.record_memory.specs.declared.books.Setup.{Setup}
use Rattle.record_memory.specs.declared.books.Note.{Note}
use Rattle.record_rule.specs.Inputs.{ShapeCell, linked, out, ShapeInput, Trace}
use Rattle.record_rule.specs.Facts.{At, link_at, with_link, mark_bit, HasMark, Near, at_held, ShapeFacts, FitsNear}
use Rattle.record_rule.specs.Laws.{LeadsTo, NodeIs, OutCellsFit, relinked, grown}
use Rattle.record_rule.proofs.Lists.{below_at, one_at, each_set}
use Rattle.record_rule.proofs.LinkLoads.{fits_body}
use Rattle.list_facts.specs.Lists.{Spot, IsSpot, LeadsUp, IsSorted, ListFits}
use Rattle.list_facts.specs.Tellings.{ListTold}
use Rattle.list_facts.specs.Steps.{marked_with, MayUnlink}
use Rattle.list_facts.proofs.Spots.{Ordered}
use Rattle.list_facts.proofs.Removing.{Removes, removed, past}
use Rattle.list_facts.proofs.Bodies.{clear_flags}
use Rattle.list_facts.proofs.Cells.{linked_spot, one_spot, spot_set, spot_else, leads_else, leads_linked}
use Rattle.list_facts.proofs.Nodes.{cell_near, spot_near, named, index_held, spot_held, target_is, node_at, node_spot, relinked_is}
use Rattle.list_facts.proofs.Turning.{not_itself, target_after, cell_sorted, turned_node, turned_from, leads_turned, out_turned}
use Rattle.list_facts.proofs.Told.{told_moved, told_turned}

-- the link of a record whose note has the new one with a mark is that
pub noted_link : {s : ShapeFacts} {cells : List ShapeCell} {gone : RefParts} {note : Note} {new : LinkParts} {i generation k : ℕ} {body : List ℕ}
    → FitsNear s cells (at_held gone note) i generation body k → IsLink new → (own : ℕ) × At note.words 0 (Some (packed_link own (marked_with new))) → link_at body 3 ≡ marked_with new
noted_link {new = new} held in_range (own, known) =
    let marks : IsLink (marked_with new) = record { flags = omega arith; target = in_range.target } in
    ap link_in (fits_body _ _ _ _ _ _ _ held 0 (packed_link own (marked_with new)) known).0 ∙ link_in-packed_link own (marked_with new) marks

module _ {flags : ℕ → Type 0} {setup : Setup} {x : ShapeInput} {h : Trace} (fits : ListFits flags setup x) (told : ListTold x h) {s : ShapeFacts} {near : Near} {f : ℕ} {gone : RefParts} {note : Note} {old new : LinkParts} {i generation k : ℕ} {body : List ℕ}
    (n : NodeIs s x.cells near f old) (to : old.target ≡ Some gone) (old_clear : ¬ HasMark old) (held : FitsNear s x.cells (at_held gone note) i generation body k) (in_range : IsLink new) (may : MayUnlink setup near f (at_held gone note) new) where
  -- where the node stands
  abbrev before : Spot
  before = spot_near s setup near n.generation n.body

  -- the node's link has no mark after
  new_clear : ¬ HasMark new
  new_clear = clear_flags new 0 refl may.2

  -- the link of the record that goes is the new one with a mark
  gone_link : link_at body 3 ≡ marked_with new
  gone_link = noted_link held in_range may.1

  -- so it has a mark
  pub gone_mark : HasMark (link_at body 3)
  gone_mark = ap mark_bit gone_link

  -- the node leads to it
  leads : (link_at before.body 3).target ≡ Some gone
  leads = target_is n may.0 ∙ to

  -- so that is linked
  pub gone_linked : At x.cells i (linked generation body k)
  gone_linked =
      let up : LeadsUp setup x.cells before gone = fits.next n.index before gone (node_spot fits n may.0 old_clear) leads in
      (spot_held setup up.0 held tt (subst (λ j. IsSpot setup x.cells j up.0) (index_held held) up.2)).0

  -- and isn't the node
  pub apart : n.index ≢ i
  apart e = not_itself fits n may.0 old_clear gone to (e ∙ sym (index_held held))

  module _ (m : ℕ) where
    -- it, taken out
    abbrev gone_cell : ShapeCell
    gone_cell = out generation body k (length x.taken_out)

    -- where it stood
    abbrev gone_spot : Spot
    gone_spot = linked_spot setup generation body

    -- the cells with it
    abbrev with_gone : List ShapeCell
    with_gone = set x.cells i gone_cell

    -- the node's body with the new link
    abbrev body_after : List ℕ
    body_after = with_link n.body f n.generation new

    -- its cell with that
    abbrev node_after : ShapeCell
    node_after = cell_near near n.generation body_after m

    -- and the cells with both
    abbrev unlinked : List ShapeCell
    unlinked = set with_gone n.index node_after

    -- the node's cell is still there
    at_node : At with_gone n.index (cell_near near n.generation n.body n.marked)
    at_node = set_else x.cells i n.index gone_cell apart ∙ node_at fits n may.0 old_clear

    -- each spot is the node, or stood before and isn't the record that went
    from : (j : ℕ) (c : Spot) → IsSpot setup unlinked j c → ((j ≡ n.index) × (c ≡ spot_near s setup near n.generation body_after)) ⊎ ((j ≢ n.index) × (j ≢ gone.index - 1) × IsSpot setup x.cells j c)
    from j c at = ⊎_elim inl
        (λ t. ⊎_elim (λ u. let none : ⊥ = (let z = u.1 in cc) in absurd none) (λ u. inr (t.0, (λ e. u.0 (e ∙ index_held held)), u.1)) (spot_set setup x.cells i gone_cell j c t.1))
        (turned_from fits n may.0 old_clear new m in_range with_gone at_node j c at)

    -- so the record is taken off
    move : Removes (IsSpot setup x.cells) (IsSpot setup unlinked) n.index before (spot_near s setup near n.generation body_after) gone_spot gone
    move = record {
      base = turned_node fits n may.0 old_clear new m in_range with_gone at_node;
      leads = leads;
      there = subst (λ j. IsSpot setup x.cells j gone_spot) (sym (index_held held)) (linked generation body k, gone_linked, refl);
      turn = target_after fits n may.0 old_clear new m in_range ∙ sym (ap (λ (l : LinkParts). l.target) gone_link);
      others = λ j c far away at. spot_else setup with_gone n.index node_after j c far (spot_else setup x.cells i gone_cell j c (λ e. away (e ∙ sym (index_held held))) at);
      from = from;
    }

    -- and the lists are sorted
    order : Ordered (IsSpot setup unlinked)
    order = removed move (one_spot setup unlinked)

    -- what was linked still is, but for it
    leads_still : (t : RefParts) → t.index - 1 ≢ i → LeadsTo x.cells t → LeadsTo unlinked t
    leads_still t ne leads = leads_turned fits n may.0 old_clear new m in_range with_gone at_node t (leads_else x.cells i gone_cell t ne leads)

    -- a link leads to a linked record, or to one that was taken out later
    abbrev Later : ℕ → RefParts → Type 0
    Later j t = LeadsTo unlinked t ⊎ ((p : ℕ) × (j < p) × At (x.taken_out ++ gone ∷ []) p t)

    -- the link of the record that goes leads to a linked one
    gone_later : (j : ℕ) (t : RefParts) → (link_at body 3).target ≡ Some t → Later j t
    gone_later j t e = inl (leads_still t (λ same. past move t e (same ∙ sym (index_held held))) (leads_linked setup x.cells gone_spot t (fits.next (gone.index - 1) gone_spot t move.there e)))

    -- a link to its index names it
    is_gone : (t : RefParts) → t.index - 1 ≡ i → LeadsTo x.cells t → t ≡ gone
    is_gone t same (last, j, there, at) =
        let z : linked t.generation last j ≡ linked generation body k = one_at x.cells i (linked t.generation last j) (linked generation body k) (subst (λ (p : ℕ). At x.cells p (linked t.generation last j)) same at) gone_linked in
        let age : t.generation ≡ generation = cc in
        let place : t.index ≡ i + 1 = omega arith in
        (λ d. refer (place d) (age d)) ∙ sym (named held)

    -- what led to the record that goes, leads to one that was taken out later
    led_later : OutCellsFit s x → (j generation' g p : ℕ) (last : List ℕ) (t : RefParts) → At x.cells j (out generation' last g p) → LeadsTo x.cells t → Dec (t.index - 1 ≡ i) → Later p t
    led_later fit j generation' g p last t at leads (no ne) = inl (leads_still t ne leads)
    led_later fit j generation' g p last t at leads (yes same) =
        inr (length x.taken_out, below_at x.taken_out p (refer (j + 1) generation') (fit.numbered j generation' g p last at), subst (At (x.taken_out ++ gone ∷ []) (length x.taken_out)) (sym (is_gone t same leads)) (at_last x.taken_out gone (length x.taken_out) refl))

    -- so links of what was taken out lead where they should
    later : OutCellsFit s x → (j generation' g p : ℕ) (last : List ℕ) (t : RefParts) → At unlinked j (out generation' last g p) → (link_at last 3).target ≡ Some t → Later p t
    later fit j generation' g p last t at e = ⊎_elim
        (λ u. gone_later p t (let z : gone_cell ≡ out generation' last g p = u.1 in let w : body ≡ last = cc in ap (λ (b : List ℕ). (link_at b 3).target) w ∙ e))
        (λ u. ⊎_elim (λ leads. led_later fit j generation' g p last t u.1 leads (ℕ_discrete (t.index - 1) i)) (λ v. inr (v.0, v.1, at_longer x.taken_out (gone ∷ []) v.0 t v.2)) (fits.later j generation' g p last t u.1 e))
        (at_set x.cells i j gone_cell (out generation' last g p) (out_turned fits n may.0 old_clear new m in_range with_gone at_node j generation' g p last at))

    -- the lists are as they should be
    unlink_fits : flags 0 → OutCellsFit s x → ListFits flags setup (record x { cells = unlinked; taken_out = x.taken_out ++ gone ∷ [] })
    unlink_fits flagged fit = record {
      next = order.next;
      one = order.one;
      gap = order.gap;
      later = later fit;
      sorted = each_set (λ _ c. IsSorted flags c) with_gone n.index node_after (each_set (λ _ c. IsSorted flags c) x.cells i gone_cell fits.sorted ((fits.sorted i (linked generation body k) gone_linked).0, gone_mark))
          (cell_sorted fits n may.0 old_clear new m in_range (subst flags (sym may.2) flagged) (λ root. new_clear));
    }

    -- a marked record counts as before once it is taken out, and has no key
    gone_told : ListTold (record x { cells = with_gone; taken_out = x.taken_out ++ gone ∷ [] }) h
    gone_told = told_moved told i (linked generation body k) gone_cell gone_linked (x.taken_out ++ gone ∷ []) (λ q has. has.0 gone_mark) (λ q has. absurd has) (λ j last is. (gone_mark, is.0, is.1))
        (rw (eq-eqb (mark_bit (link_at body 3)) 1 gone_mark) (omega (arith, length-append x.taken_out (gone ∷ []))))

    -- and tied to the same history
    unlink_told : ListTold (record x { cells = unlinked; taken_out = x.taken_out ++ gone ∷ [] }) h
    unlink_told = told_turned n may.0 old_clear new m in_range new_clear gone_told at_node

  -- the table after the step
  abbrev after : ShapeInput
  after = record x { cells = set (set x.cells i (out generation body k (length x.taken_out))) n.index (relinked s x.cells near f old n new (length h.updates)); taken_out = x.taken_out ++ gone ∷ [] }

  -- taking a record off keeps the lists sorted, and what ties them to the history
  pub unlinks : flags 0 → OutCellsFit s x → ListFits flags setup after × ListTold after (grown h None)
  unlinks flagged fit = (rw (relinked_is fits n may.0 old_clear) (unlink_fits _ flagged fit), rw (relinked_is fits n may.0 old_clear) (unlink_told _))
