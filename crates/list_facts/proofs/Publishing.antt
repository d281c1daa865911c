-- A record is linked between a node and where the node's link leads: the lists are still sorted, the insertion is tied to it, and it is one that the set machine answers yes.
use Rattle.std.proofs.Common.{◌≡◌, ◌≢◌, ℕ, ◌+◌, ◌-◌, ◌%◌, ◌<◌, List, length, set, true, inl, inr, ⊎_elim, Option, Some, sym, refl, ap, ◌∙◌, subst, arith}
use Rattle.std.proofs.lemmas.Bool.{ne_eqb, not_from_false, false_from_ne_true}
use Rattle.atomic_table.proofs.Lists.{set_else}
use Rattle.set_model.specs.declared.calls.Call.{Call}
use Rattle.set_model.specs.Keys.{contains}
use Rattle.set_model.specs.Histories.{keys_of}
use Rattle.row_words.specs.Refs.{RefParts, LinkParts, IsRef}
use Rattle.row_words.specs.Packing.{packed_link, link_in, key_in, kind_in, IsLink}
use Rattle.row_words.proofs.Packed.{key_in-packed_key, kind_in-packed_key}
use Rattle.record_memory.specs.declared.books.Setup.{Setup}
use Rattle.record_rule.specs.Inputs.{ShapeCell, hidden, linked, out, ShapeInput, Trace}
use Rattle.record_rule.specs.Facts.{At, word_in, link_at, key_at, with_link, mark_bit, HasMark, clean, Near, ShapeFacts, FitsNext, at_end, at_next, update_for}
use Rattle.record_rule.specs.Laws.{LeadsTo, NodeIs, relinked, grown}
use Rattle.record_rule.proofs.Lists.{below_at, each_set}
use Rattle.list_facts.specs.Lists.{Spot, IsSpot, IsSorted, ListFits}
use Rattle.list_facts.specs.Tellings.{IsPresent, ListTold}
use Rattle.record_rule.specs.Machines.{set_legal}
use Rattle.list_facts.specs.Steps.{IsAbove, IsNode, MayPublish}
use Rattle.list_facts.proofs.Spots.{target_of, Ordered, nothing_between}
use Rattle.list_facts.proofs.Inserting.{Came, turned, fresh, stayed, inserted}
use Rattle.list_facts.proofs.Bodies.{link_again, clear_flags}
use Rattle.list_facts.proofs.Cells.{spot_is, linked_spot, one_spot, no_spot, ordered, spot_set, spot_here, spot_else, leads_else, out_else}
use Rattle.list_facts.proofs.Nodes.{cell_near, spot_near, index_held, rank_known, home_known, spot_held, target_is, node_at, node_spot, relinked_is}
use Rattle.list_facts.proofs.Turning.{target_after, cell_sorted, turned_node, turned_from, leads_turned, out_turned}
use Rattle.list_facts.proofs.Told.{update, told_added, told_turned}

-- what stands at a link's target has a higher rank than one that the next node is above
above_next : {s : ShapeFacts} {cells : List ShapeCell} {target : Option RefParts} {next : Option Near} → (setup : Setup) → FitsNext s cells target next → (t : RefParts) (rank : ℕ) (a : Spot) → target ≡ Some t → IsAbove rank next → IsSpot setup cells (t.index - 1) a → rank < a.rank
above_next setup at_end t rank a is above stands = let no : ⊥ = cc in absurd no
above_next {cells = cells} setup (at_next r note i generation m body near) t rank a is above stands =
    let same : r ≡ t = cc in
    let at : t.index - 1 ≡ i = ap (λ (u : RefParts). u.index - 1) (sym same) ∙ index_held near in
    let held = spot_held setup a near tt (subst (λ j. IsSpot setup cells j a) at stands) in
    omega (arith, held.1, rank_known near above.1, above.0)

-- the link of a record that may be linked is the expected one, without flags
pub node_link : {s : ShapeFacts} {cells : List ShapeCell} {near : Near} {f generation k : ℕ} {old : LinkParts} {body : List ℕ} → NodeIs s cells near f old → IsNode generation k old body → link_at body 3 ≡ record old { flags = 0 }
node_link {f = f} {generation = generation} n node =
    ap link_in node.link_is ∙ subst (λ (j : LinkParts). link_in (packed_link generation (record j { flags = 0 })) ≡ record j { flags = 0 }) n.word (link_again generation (word_in n.body f) 0 (omega arith))

-- `plain` are flags without the mark's
module _ {flags : ℕ → Type 0} {setup : Setup} {x : ShapeInput} {h : Trace} (fits : ListFits flags setup x) (told : ListTold x h) {s : ShapeFacts} {near : Near} {f : ℕ} {old : LinkParts} {body : List ℕ} {next : Option Near} {call : Option Call} (n : NodeIs s x.cells near f old)
    (plain : ℕ) (even : plain % 2 ≡ 0) (fits_next : FitsNext s x.cells old.target next) (may : MayPublish plain setup near f old body next call) where
  -- where the node stands
  abbrev before : Spot
  before = spot_near s setup near n.generation n.body

  -- the node's link has no mark
  old_clear : ¬ HasMark old
  old_clear = clear_flags old plain even may.flags_are

  -- it stands there
  here : IsSpot setup x.cells n.index before
  here = node_spot fits n may.field old_clear

  -- the own record's key is the one that the call names
  own_key : key_at body ≡ may.k
  own_key = ap key_in may.node.key_is ∙ key_in-packed_key may.generation 0 may.k may.node.key_fits

  -- its kind is that of a key
  own_kind : kind_in (word_in body 4) ≡ 0
  own_kind = ap kind_in may.node.key_is ∙ kind_in-packed_key may.generation 0 may.k (omega arith) may.node.key_fits

  -- its link is the node's, without flags
  own_link : link_at body 3 ≡ record old { flags = 0 }
  own_link = node_link n may.node

  -- so it has no mark
  pub own_clean : ¬ HasMark (link_at body 3)
  own_clean = rw own_link (clear_flags (record old { flags = 0 }) 0 refl refl)

  -- the node leads to what is behind the key
  beyond : (t : RefParts) (c : Spot) → target_of before ≡ Some t → IsSpot setup x.cells (t.index - 1) c → may.k + 1 < c.rank
  beyond t c e at = above_next setup fits_next t (may.k + 1) c (sym (target_is n may.field) ∙ e) may.below at

  -- so the key isn't present
  no_setup : IsPresent x.cells may.k → ⊥
  no_setup p =
      let home : key_at p.3 % setup.roots ≡ before.home = ap (λ k. k % setup.roots) p.6 ∙ sym may.home ∙ home_known setup n.fits may.keyed in
      let rank : before.rank < key_at p.3 + 1 = omega (arith, rank_known n.fits may.keyed, may.above, p.6) in
      let lt = nothing_between (IsSpot setup x.cells) n.index before (may.k + 1) (ordered fits) here beyond p.0 (linked_spot setup p.1 p.3) (linked p.1 p.3 p.2, p.4, refl) home rank in
      omega (arith, lt, p.6)

  -- so its insertion is answered yes
  pub publish_legal : (c number : ℕ) → set_legal h.updates (update c number may.k true)
  publish_legal c number = not_from_false (contains (keys_of h.updates) may.k) (false_from_ne_true (contains (keys_of h.updates) may.k) (λ has. no_setup ((told.keys may.k).0 has)))

  module _ {own : RefParts} (free : At x.cells (own.index - 1) hidden) (ref : IsRef own) (marked m : ℕ) where
    -- the own record, linked
    abbrev own_cell : ShapeCell
    own_cell = linked own.generation body marked

    -- where it stands
    abbrev own_spot : Spot
    own_spot = linked_spot setup own.generation body

    -- the cells with it
    abbrev with_own : List ShapeCell
    with_own = set x.cells (own.index - 1) own_cell

    -- the node's body with a link to it
    abbrev body_after : List ℕ
    body_after = with_link n.body f n.generation (clean own)

    -- the node's cell with that
    abbrev node_after : ShapeCell
    node_after = cell_near near n.generation body_after m

    -- and the cells with both
    abbrev published : List ShapeCell
    published = set with_own n.index node_after

    -- the new link is in range
    in_range : IsLink (clean own)
    in_range = record { flags = omega arith; target = ref }

    -- and has no mark
    new_clear : ¬ HasMark (clean own)
    new_clear = clear_flags (clean own) 0 refl refl

    -- nothing stands at the own record
    other : (i : ℕ) (a : Spot) → IsSpot setup x.cells i a → i ≢ own.index - 1
    other i a at e = no_spot setup x.cells (own.index - 1) hidden a free refl (subst (λ j. IsSpot setup x.cells j a) e at)

    -- so no link leads there
    leads_other : (t : RefParts) → LeadsTo x.cells t → t.index - 1 ≢ own.index - 1
    leads_other t (b, k, named, at) = other (t.index - 1) (linked_spot setup t.generation b) (linked t.generation b k, at, refl)

    -- the node is another cell than it
    at_node : At with_own n.index (cell_near near n.generation n.body n.marked)
    at_node = set_else x.cells (own.index - 1) n.index own_cell (other n.index before here) ∙ node_at fits n may.field old_clear

    -- each spot is the node, the own record, or stood before
    came : (i : ℕ) (b : Spot) → IsSpot setup published i b → Came (IsSpot setup x.cells) n.index (own.index - 1) (spot_near s setup near n.generation body_after) own_spot i b
    came i b at = ⊎_elim (λ t. turned t.0 t.1)
        (λ t. ⊎_elim (λ u. fresh u.0 (spot_is b own_spot (sym u.1))) (λ u. stayed t.0 u.1) (spot_set setup x.cells (own.index - 1) own_cell i b t.1))
        (turned_from fits n may.field old_clear (clean own) m in_range with_own at_node i b at)

    -- so the lists are sorted
    order : Ordered (IsSpot setup published)
    order = inserted (record {
      base = turned_node fits n may.field old_clear (clean own) m in_range with_own at_node;
      turn = target_after fits n may.field old_clear (clean own) m in_range;
      named = ref.index.0;
      generation = refl;
      home = ap (λ (k : ℕ). k % setup.roots) own_key ∙ sym may.home ∙ home_known setup n.fits may.keyed;
      above = omega (arith, rank_known n.fits may.keyed, may.above, own_key);
      link = ap (λ (l : LinkParts). l.target) own_link ∙ sym (target_is n may.field);
      below = λ t c e at. omega (arith, beyond t c e at, own_key);
      comes = spot_else setup with_own n.index node_after (own.index - 1) own_spot (λ e. other n.index before here (sym e)) (spot_here setup x.cells (own.index - 1) own_cell own_spot (below_at x.cells (own.index - 1) hidden free) refl);
      others = λ i c far at. spot_else setup with_own n.index node_after i c far (spot_else setup x.cells (own.index - 1) own_cell i c (other i c at) at);
      from = came;
    }) (one_spot setup published)

    -- what is taken out was so before
    out_before : (i generation j k : ℕ) (last : List ℕ) → At with_own i (out generation last j k) → At x.cells i (out generation last j k)
    out_before i generation j k last at = (out_else setup x.cells (own.index - 1) own_cell own_spot refl i generation j k last at).1

    -- what was linked still is
    leads_still : (t : RefParts) → LeadsTo x.cells t → LeadsTo published t
    leads_still t leads = leads_turned fits n may.field old_clear (clean own) m in_range with_own at_node t (leads_else x.cells (own.index - 1) own_cell t (leads_other t leads) leads)

    -- the lists are as they should be
    publish_fits : flags 0 → ListFits flags setup (record x { cells = published })
    publish_fits flagged = record {
      next = order.next;
      one = order.one;
      gap = order.gap;
      later = λ i generation j k last t at e. ⊎_elim (λ leads. inl (leads_still t leads)) inr
          (fits.later i generation j k last t (out_before i generation j k last (out_turned fits n may.field old_clear (clean own) m in_range with_own at_node i generation j k last at)) e);
      sorted = each_set (λ _ c. IsSorted flags c) with_own n.index node_after
          (each_set (λ _ c. IsSorted flags c) x.cells (own.index - 1) own_cell fits.sorted (rw own_link flagged, own_kind))
          (cell_sorted fits n may.field old_clear (clean own) m in_range flagged (λ root. new_clear));
    }

    -- the own record has the key, and the node has those that it had
    publish_told : (c number : ℕ) → ListTold (record x { cells = published }) (grown h (Some (update c number may.k true)))
    publish_told c number = told_turned n may.field old_clear (clean own) m in_range new_clear
        (told_added told (own.index - 1) hidden own_cell free c number may.k (λ q has. has) (own_clean, own_key) (λ k b is. own_clean is.0) (sym (ne_eqb (mark_bit (link_at body 3)) 1 own_clean)))
        at_node

  module _ {own : RefParts} (free : At x.cells (own.index - 1) hidden) (ref : IsRef own) (marked : ℕ) where
    -- the table after the step
    abbrev after : ShapeInput
    after = record x { cells = set (set x.cells (own.index - 1) (linked own.generation body marked)) n.index (relinked s x.cells near f old n (clean own) (length h.updates)) }

    -- linking an own record keeps the lists sorted, and what ties them to the history
    pub publishes : (c number : ℕ) → flags 0 → ListFits flags setup after × ListTold after (grown h (update_for c number call))
    publishes c number flagged = (
      rw (relinked_is fits n may.field old_clear) (publish_fits free ref marked _ flagged),
      rw (relinked_is fits n may.field old_clear, may.decides) (publish_told free ref marked _ c number),
    )
