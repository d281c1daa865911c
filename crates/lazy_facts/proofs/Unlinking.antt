-- A marked record is taken off its predecessor's link: it says what it said, and so does every other.
use Rattle.std.proofs.Common.{◌≡◌, ℕ, List, [], ◌∷◌, ◌++◌, length, set, ⊎_elim, Some, None, sym, refl, ◌∙◌, subst, arith}
use Rattle.atomic_table.proofs.Lists.{set_else}
use Rattle.row_words.specs.Refs.{RefParts, LinkParts}
use Rattle.row_words.specs.Packing.{IsLink}
use Rattle.record_memory.specs.declared.books.Setup.{Setup}
use Rattle.record_memory.specs.declared.books.Note.{Note}
use Rattle.record_rule.specs.Inputs.{ShapeCell, linked, out, ShapeInput, Trace}
use Rattle.record_rule.specs.Facts.{At, link_at, with_link, HasMark, Near, at_held, ShapeFacts, FitsNear}
use Rattle.record_rule.specs.Laws.{NodeIs, OutCellsFit, relinked, grown}
use Rattle.list_facts.specs.Tellings.{IsMarked}
use Rattle.list_facts.specs.Steps.{MayUnlink}
use Rattle.list_facts.proofs.Bodies.{clear_flags}
use Rattle.list_facts.proofs.Nodes.{cell_near, node_at, relinked_is}
use Rattle.list_facts.proofs.Present.{marked_at, marked_since}
use Rattle.list_facts.proofs.Unlinking.{gone_mark, gone_linked, apart, unlinks}
use Rattle.lazy_facts.specs.Lazy.{LazyFits, LazyTold}
use Rattle.lazy_facts.proofs.Targets.{seen_set, seen_turned, marked_turned}
use Rattle.lazy_facts.proofs.Keeping.{KeepsTargets, KeepsMarks, absences_kept, up_kept}

module _ {setup : Setup} {x : ShapeInput} {h : Trace} (fits : LazyFits setup x) (told : LazyTold setup x h) {s : ShapeFacts} (outs : OutCellsFit s x) {near : Near} {f : ℕ} {gone : RefParts} {note : Note} {old new : LinkParts} {i generation k : ℕ} {body : List ℕ}
    (n : NodeIs s x.cells near f old) (to : old.target ≡ Some gone) (old_clear : ¬ HasMark old) (held : FitsNear s x.cells (at_held gone note) i generation body k) (in_range : IsLink new) (may : MayUnlink setup near f (at_held gone note) new) where
  -- the record that goes has a mark
  mark : HasMark (link_at body 3)
  mark = gone_mark fits.lists told.list n to old_clear held in_range may

  -- and is linked
  was_linked : At x.cells i (linked generation body k)
  was_linked = gone_linked fits.lists told.list n to old_clear held in_range may

  -- it, taken out, and the cells with it
  abbrev gone_cell : ShapeCell
  gone_cell = out generation body k (length x.taken_out)

  abbrev with_gone : List ShapeCell
  with_gone = set x.cells i gone_cell

  -- the node is another record
  at_node : At with_gone n.index (cell_near near n.generation n.body n.marked)
  at_node = set_else x.cells i n.index gone_cell (apart fits.lists told.list n to old_clear held in_range may) ∙ node_at fits.lists n may.0 old_clear

  -- the cells with both
  abbrev unlinked : ℕ → List ShapeCell
  unlinked m = set with_gone n.index (cell_near near n.generation (with_link n.body f n.generation new) m)

  -- no key changed
  targets : (m : ℕ) → KeepsTargets x.cells (unlinked m)
  targets m j p b a t was leads seen =
      let (c, there, same) = seen_turned n may.0 new m in_range with_gone at_node t a seen in
      ⊎_elim
      (λ q. (c, (linked generation body k, subst (λ (z : ℕ). At x.cells z (linked generation body k)) (sym q.0) was_linked, q.1), same))
      (λ old. (c, old, same))
      (seen_set x.cells i gone_cell t c there)

  -- and no other record is marked
  marks : (m : ℕ) → KeepsMarks x.cells (unlinked m)
  marks m j p start b q = ⊎_elim
      (λ r. subst (λ (z : ℕ). IsMarked x.cells z b p start) (sym r.0) (marked_at x.cells i p start b (linked generation body k) was_linked (mark, r.1.0, r.1.1) tt))
      (λ was. was)
      (marked_since x.cells i (linked generation body k) gone_cell was_linked j p start b (marked_turned n may.0 new m in_range with_gone at_node (clear_flags new 0 refl may.2) j p start b q))

  -- the table after the step
  abbrev after : ShapeInput
  after = record x { cells = set with_gone n.index (relinked s x.cells near f old n new (length h.updates)); taken_out = x.taken_out ++ gone ∷ [] }

  -- taking a record out keeps the facts of the list
  pub lazy_unlinks : LazyFits setup after × LazyTold setup after (grown h None)
  lazy_unlinks =
      let made = unlinks fits.lists told.list n to old_clear held in_range may (omega arith) outs in (
        record { lists = made.0; up = rw (relinked_is fits.lists n may.0 old_clear) (up_kept setup x.cells _ (targets _) (marks _) fits.up) },
        record { list = made.1; absences = rw (relinked_is fits.lists n may.0 old_clear) (absences_kept setup x.cells _ (targets _) (marks _) h None told.absences) },
      )
