-- What is seen of a link's target, and which records are marked, after one cell was set.
use Rattle.std.proofs.Common.{◌≡◌, ℕ, ◌-◌, ◌⊎◌, inl, inr, ⊎_elim, List, set, sym, refl, ap, ◌∙◌, subst}
use Rattle.atomic_table.proofs.Lists.{at_set}
use Rattle.row_words.specs.Refs.{RefParts, LinkParts}
use Rattle.row_words.specs.Packing.{IsLink}
use Rattle.record_rule.specs.Inputs.{ShapeCell}
use Rattle.record_rule.specs.Facts.{At, link_at, key_at, with_link, HasMark, Near, at_root, at_held, ShapeFacts}
use Rattle.record_rule.specs.Laws.{NodeIs}
use Rattle.list_facts.specs.Tellings.{IsMarked}
use Rattle.list_facts.proofs.Present.{marked_since}
use Rattle.list_facts.proofs.Bodies.{link_with_link, key_with_link}
use Rattle.list_facts.proofs.Nodes.{cell_near}
use Rattle.list_facts.proofs.Told.{mark_none}
use Rattle.lazy_facts.specs.Absences.{IsRecordWith, IsSeen}
use Rattle.lazy_facts.proofs.Keeping.{KeepsMarks}

-- what is seen of a record is in the new cell or was there
pub seen_set : (cells : List ShapeCell) (i : ℕ) (b : ShapeCell) (t : RefParts) (body : List ℕ) → IsSeen (set cells i b) t body → ((t.index - 1 ≡ i) × IsRecordWith b t.generation body) ⊎ IsSeen cells t body
seen_set cells i b t body (cell, at, is) = ⊎_elim
    (λ p. inl (p.0, subst (λ (c : ShapeCell). IsRecordWith c t.generation body) (sym p.1) is))
    (λ p. inr (cell, p.1, is))
    (at_set cells i (t.index - 1) b cell at)

-- a node's cell is the same record's with another body
with_near : (near : Near) (generation e m m' : ℕ) (body body' seen : List ℕ) → IsRecordWith (cell_near near generation body' m') e seen → IsRecordWith (cell_near near generation body m) e body × (body' ≡ seen)
with_near (at_root r) generation e m m' body body' seen is = absurd is
with_near (at_held r note) generation e m m' body body' seen is = ((is.0, refl), is.1)

-- a node's link is left, and it keeps its key
module _ (cells : List ShapeCell) (near : Near) (i generation m m' : ℕ) (body body' : List ℕ) (at : At cells i (cell_near near generation body m)) (same : key_at body' ≡ key_at body) where
  -- what is seen afterwards was there before, with its key
  pub seen_node : (t : RefParts) (b : List ℕ) → IsSeen (set cells i (cell_near near generation body' m')) t b → (a : List ℕ) × IsSeen cells t a × (key_at a ≡ key_at b)
  seen_node t b seen = ⊎_elim
      (λ p. let w = with_near near generation t.generation m m' body body' b p.1 in
      (body, (cell_near near generation body m, subst (λ (j : ℕ). At cells j (cell_near near generation body m)) (sym p.0) at, w.0), sym same ∙ ap key_at w.1))
      (λ q. (b, q, refl))
      (seen_set cells i (cell_near near generation body' m') t b seen)

  -- where it has no mark, what is marked was so before
  pub marked_node : ¬ HasMark (link_at body' 3) → (j k start : ℕ) (b : List ℕ) → IsMarked (set cells i (cell_near near generation body' m')) j b k start → IsMarked cells j b k start
  marked_node clear j k start b p = ⊎_elim
      (λ e. absurd (mark_none near generation m' body' clear k b e.1))
      (λ q. q)
      (marked_since cells i (cell_near near generation body m) (cell_near near generation body' m') at j k start b p)

-- a node's link in word 3 is left
module _ {s : ShapeFacts} {whole : List ShapeCell} {near : Near} {f : ℕ} {old : LinkParts} (n : NodeIs s whole near f old) (field : f ≡ 3) (new : LinkParts) (m : ℕ) (in_range : IsLink new)
    (cells : List ShapeCell) (at : At cells n.index (cell_near near n.generation n.body n.marked)) where
  -- the cells with that
  abbrev pub turned_cells : List ShapeCell
  turned_cells = set cells n.index (cell_near near n.generation (with_link n.body f n.generation new) m)

  -- what is seen afterwards was there before, with its key
  pub seen_turned : (t : RefParts) (b : List ℕ) → IsSeen turned_cells t b → (a : List ℕ) × IsSeen cells t a × (key_at a ≡ key_at b)
  seen_turned = seen_node cells near n.index n.generation n.marked m n.body (with_link n.body f n.generation new) at (key_with_link n.body f n.generation new field)

  -- and where the new link has no mark, what is marked was so before
  pub marked_turned : ¬ HasMark new → KeepsMarks cells turned_cells
  marked_turned clear i k start b p =
      let plain : ¬ HasMark (link_at (with_link n.body f n.generation new) 3) = rw (link_with_link n.body f n.generation new field n.long in_range) clear in
      marked_node cells near n.index n.generation n.marked m n.body (with_link n.body f n.generation new) at (key_with_link n.body f n.generation new field) plain i k start b p
