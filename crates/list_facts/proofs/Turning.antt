-- A node's link is turned: what stands then, and that the lists are still sorted where it leads to where it did.
use Rattle.std.proofs.Common.{◌≡◌, ◌≢◌, ℕ, ◌-◌, arith, List, set, ◌⊎◌, inl, inr, ⊎_elim, Some, sym, ap, ◌∙◌, subst}
use native.Mathlib.Decide.{ℕ_discrete}
use Rattle.atomic_table.proofs.Lists.{set_here}
use Rattle.record_memory.specs.declared.books.Setup.{Setup}
use Rattle.row_words.specs.Refs.{RefParts, LinkParts}
use Rattle.row_words.specs.Packing.{IsLink, kind_in}
use Rattle.record_rule.specs.Inputs.{ShapeCell, linked, out, ShapeInput}
use Rattle.record_rule.specs.Facts.{At, word_in, link_at, with_link, HasMark, Near, at_root, at_held, ShapeFacts}
use Rattle.record_rule.specs.Laws.{LeadsTo, NodeIs}
use Rattle.record_rule.proofs.Lists.{below_at, one_at, each_set}
use Rattle.list_facts.specs.Lists.{Spot, IsSpot, LeadsUp, IsSorted, ListFits}
use Rattle.list_facts.specs.Steps.{IsRecord}
use Rattle.list_facts.proofs.Spots.{target_of, Ordered, Turned, turned_ordered}
use Rattle.list_facts.proofs.Bodies.{link_with_link, key_word_with_link, key_with_link}
use Rattle.list_facts.proofs.Cells.{spot_is, one_spot, spot_set, spot_here, spot_else, out_else, ordered, leads_else, leads_linked}
use Rattle.list_facts.proofs.Nodes.{cell_near, spot_near, alike_near, linked_near, near_spot, target_is, node_at, node_spot}

-- a node's cell is as it should be after its link was set
sorted_near : (flags : ℕ → Type 0) (near : Near) (generation m m' : ℕ) (body body' : List ℕ) (new : LinkParts) → IsSorted flags (cell_near near generation body m)
    → link_at body' 3 ≡ new → word_in body' 4 ≡ word_in body 4 → flags new.flags → (¬ IsRecord near → ¬ HasMark new)
    → IsSorted flags (cell_near near generation body' m')
sorted_near flags (at_root n) generation m m' body body' new was link word may clear = rw link (may, clear (λ r. r))
sorted_near flags (at_held r note) generation m m' body body' new was link word may clear = (rw link may, ap kind_in word ∙ was.1)

-- a link without a mark leads to a linked record
pub reaches : {flags : ℕ → Type 0} {setup : Setup} {x : ShapeInput} (fits : ListFits flags setup x) {s : ShapeFacts} {near : Near} {f : ℕ} {l : LinkParts} (n : NodeIs s x.cells near f l) → f ≡ 3 → ¬ HasMark l → (t : RefParts) → l.target ≡ Some t → LeadsTo x.cells t
reaches {setup = setup} {x = x} fits {s = s} {near = near} n field clear t e =
    let before : Spot = spot_near s setup near n.generation n.body in
    leads_linked setup x.cells before t (fits.next n.index before t (node_spot fits n field clear) (target_is n field ∙ e))

-- and not to its own node
pub not_itself : {flags : ℕ → Type 0} {setup : Setup} {x : ShapeInput} (fits : ListFits flags setup x) {s : ShapeFacts} {near : Near} {f : ℕ} {l : LinkParts} (n : NodeIs s x.cells near f l) → f ≡ 3 → ¬ HasMark l → (t : RefParts) → l.target ≡ Some t → n.index ≢ t.index - 1
not_itself {setup = setup} {x = x} fits {s = s} {near = near} n field clear t e same =
    let before : Spot = spot_near s setup near n.generation n.body in let here : IsSpot setup x.cells n.index before = node_spot fits n field clear in
    let up : LeadsUp setup x.cells before t = fits.next n.index before t here (target_is n field ∙ e) in
    let one : up.0 ≡ before = one_spot setup x.cells n.index up.0 before (subst (λ j. IsSpot setup x.cells j up.0) (sym same) up.2) here in
    let rank = ap (λ (a : Spot). a.rank) one in let less = up.5 in omega arith

module _ {flags : ℕ → Type 0} {setup : Setup} {x : ShapeInput} (fits : ListFits flags setup x) {s : ShapeFacts} {near : Near} {f : ℕ} {l : LinkParts} (n : NodeIs s x.cells near f l) (field : f ≡ 3) (clear : ¬ HasMark l) (new : LinkParts) (m : ℕ) (in_range : IsLink new) where
  -- the node's body with the new link
  abbrev body_after : List ℕ
  body_after = with_link n.body f n.generation new

  -- its cell with that
  abbrev cell_after : ShapeCell
  cell_after = cell_near near n.generation body_after m

  -- where it stood
  abbrev before : Spot
  before = spot_near s setup near n.generation n.body

  -- and where it stands
  abbrev after : Spot
  after = spot_near s setup near n.generation body_after

  -- where the node leads now
  pub target_after : target_of after ≡ new.target
  target_after = ap (λ (l : LinkParts). l.target) (link_with_link n.body f n.generation new field n.long in_range)

  -- its cell is as it should be
  pub cell_sorted : flags new.flags → (¬ IsRecord near → ¬ HasMark new) → IsSorted flags cell_after
  cell_sorted = sorted_near flags near n.generation n.marked m n.body body_after new (fits.sorted n.index _ (node_at fits n field clear)) (link_with_link n.body f n.generation new field n.long in_range) (key_word_with_link n.body f n.generation new field)

  -- in the table's cells, or in those after another one was set
  module _ (cells : List ShapeCell) (at : At cells n.index (cell_near near n.generation n.body n.marked)) where
    -- the node is turned
    pub turned_node : Turned (IsSpot setup x.cells) (IsSpot setup (set cells n.index cell_after)) n.index before after
    turned_node = record {
      ordered = ordered fits;
      here = node_spot fits n field clear;
      like = alike_near s setup near n.generation n.body body_after (key_with_link n.body f n.generation new field);
      node = spot_here setup cells n.index cell_after after (below_at cells n.index _ at) (near_spot setup n.fits body_after m);
    }

    -- a spot is the node's, or stood before
    pub turned_from : (i : ℕ) (b : Spot) → IsSpot setup (set cells n.index cell_after) i b → ((i ≡ n.index) × (b ≡ after)) ⊎ ((i ≢ n.index) × IsSpot setup cells i b)
    turned_from i b at = ⊎_elim (λ t. inl (t.0, spot_is b after (sym t.1 ∙ near_spot setup n.fits body_after m))) inr (spot_set setup cells n.index cell_after i b at)

    -- by whether it is the node
    leads_if : (t : RefParts) → LeadsTo cells t → Dec (t.index - 1 ≡ n.index) → LeadsTo (set cells n.index cell_after) t
    leads_if t leads (no ne) = leads_else cells n.index cell_after t ne leads
    leads_if t (old, k, named, there) (yes e) =
        let is : cell_near near n.generation n.body n.marked ≡ linked t.generation old k = one_at cells n.index _ (linked t.generation old k) at (subst (λ (i : ℕ). At cells i (linked t.generation old k)) e there) in (
          body_after,
          m,
          named,
          subst (λ (i : ℕ). At (set cells n.index cell_after) i (linked t.generation body_after m)) (sym e)
              (subst (At (set cells n.index cell_after) n.index) (linked_near near n.generation t.generation n.marked m k n.body body_after old is) (set_here cells n.index cell_after (below_at cells n.index _ at))),
        )

    -- a linked record is linked still
    pub leads_turned : (t : RefParts) → LeadsTo cells t → LeadsTo (set cells n.index cell_after) t
    leads_turned t leads = leads_if t leads (ℕ_discrete (t.index - 1) n.index)

    -- the node isn't taken out
    pub out_turned : (i generation k j : ℕ) (body : List ℕ) → At (set cells n.index cell_after) i (out generation body k j) → At cells i (out generation body k j)
    out_turned i generation k j body at = (out_else setup cells n.index cell_after after (near_spot setup n.fits body_after m) i generation k j body at).1

  -- a node's link is turned, and leads to where it did
  pub turn_fits : new.target ≡ l.target → flags new.flags → (¬ IsRecord near → ¬ HasMark new) → ListFits flags setup (record x { cells = set x.cells n.index cell_after })
  turn_fits same may root_clear =
      let at = node_at fits n field clear in
      let order : Ordered (IsSpot setup (set x.cells n.index cell_after)) = turned_ordered (record {
        base = turned_node x.cells at;
        turn = target_after ∙ same ∙ sym (target_is n field);
        others = spot_else setup x.cells n.index cell_after;
        from = turned_from x.cells at;
      }) (one_spot setup (set x.cells n.index cell_after)) in record {
        next = order.next;
        one = order.one;
        gap = order.gap;
        later = λ i generation k j body t there e. ⊎_elim (λ leads. inl (leads_turned x.cells at t leads)) inr (fits.later i generation k j body t (out_turned x.cells at i generation k j body there) e);
        sorted = each_set (λ _ c. IsSorted flags c) x.cells n.index cell_after fits.sorted (cell_sorted may root_clear);
      }
