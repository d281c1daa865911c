-- An own record is linked behind a node: no marked record's link names it, so all that marked records say stays.
use Rattle.std.proofs.Common.{◌≡◌, ◌≢◌, ℕ, ◌-◌, List, length, set, ⊎_elim, Option, Some, sym, refl, ◌∙◌, subst, arith}
use Rattle.atomic_table.proofs.Lists.{set_else}
use Rattle.set_model.specs.declared.calls.Call.{Call}
use Rattle.row_words.specs.Refs.{RefParts, LinkParts, IsRef}
use Rattle.row_words.specs.Packing.{IsLink}
use Rattle.record_memory.specs.declared.books.Setup.{Setup}
use Rattle.record_rule.specs.Inputs.{ShapeCell, hidden, linked, ShapeInput, Trace}
use Rattle.record_rule.specs.Facts.{At, link_at, with_link, HasMark, clean, Near, ShapeFacts, FitsNext, update_for}
use Rattle.record_rule.specs.Laws.{NodeIs, OutCellsFit, IsNewGeneration, relinked, grown}
use Rattle.record_rule.proofs.Lists.{one_at}
use Rattle.list_facts.specs.Lists.{Spot, IsSpot}
use Rattle.list_facts.specs.Tellings.{IsMarked, still, gone}
use Rattle.list_facts.specs.Steps.{MayPublish}
use Rattle.list_facts.proofs.Bodies.{clear_flags}
use Rattle.list_facts.proofs.Cells.{linked_spot, no_spot}
use Rattle.list_facts.proofs.Nodes.{cell_near, spot_near, node_at, node_spot, relinked_is}
use Rattle.list_facts.proofs.Present.{marked_since}
use Rattle.list_facts.proofs.Publishing.{own_clean, publishes}
use Rattle.lazy_facts.specs.Lazy.{LazyFits, LazyTold}
use Rattle.lazy_facts.proofs.Targets.{seen_set, seen_turned, marked_turned}
use Rattle.lazy_facts.proofs.Keeping.{KeepsTargets, KeepsMarks, absences_kept, up_kept}

module _ {setup : Setup} {x : ShapeInput} {h : Trace} (fits : LazyFits setup x) (told : LazyTold setup x h) {s : ShapeFacts} (outs : OutCellsFit s x) {near : Near} {f : ℕ} {old : LinkParts} {body : List ℕ} {next : Option Near} {call : Option Call} (n : NodeIs s x.cells near f old)
    (fits_next : FitsNext s x.cells old.target next) (may : MayPublish 2 setup near f old body next call) {own : RefParts} (free : At x.cells (own.index - 1) hidden) (ref : IsRef own) (name : IsNewGeneration s x.taken_out own) (marked : ℕ) where
  -- the node's link has no mark
  old_clear : ¬ HasMark old
  old_clear = clear_flags old 2 refl may.flags_are

  -- nor has the new one
  new_clear : ¬ HasMark (clean own)
  new_clear = clear_flags (clean own) 0 refl refl

  -- nor the own record's
  own_plain : ¬ HasMark (link_at body 3)
  own_plain = own_clean fits.lists told.list n 2 refl fits_next may

  -- the new link is in range
  in_range : IsLink (clean own)
  in_range = record { flags = omega arith; target = ref }

  -- the own record, linked, and the cells with it
  abbrev own_cell : ShapeCell
  own_cell = linked own.generation body marked

  abbrev with_own : List ShapeCell
  with_own = set x.cells (own.index - 1) own_cell

  -- the node is another record
  apart : n.index ≢ own.index - 1
  apart e = let a : Spot = spot_near s setup near n.generation n.body in no_spot setup x.cells (own.index - 1) hidden a free refl (subst (λ (i : ℕ). IsSpot setup x.cells i a) e (node_spot fits.lists n may.field old_clear))

  at_node : At with_own n.index (cell_near near n.generation n.body n.marked)
  at_node = set_else x.cells (own.index - 1) n.index own_cell apart ∙ node_at fits.lists n may.field old_clear

  -- the cells with both
  abbrev published : ℕ → List ShapeCell
  published m = set with_own n.index (cell_near near n.generation (with_link n.body f n.generation (clean own)) m)

  -- what a marked record's link names was linked, and the own record never was
  unnamed : (i m : ℕ) (b : List ℕ) (t : RefParts) → (link_at b 3).target ≡ Some t → IsMarked x.cells i b m 0 → t.index - 1 ≡ own.index - 1 → own.generation ≡ t.generation → ⊥
  unnamed i m b t e (still generation at mark) same age =
      let up = fits.lists.next i (linked_spot setup generation b) t (linked generation b m, at, refl) e in
      no_spot setup x.cells (t.index - 1) hidden up.0 (subst (λ (z : ℕ). At x.cells z hidden) (sym same) free) refl up.2
  unnamed i m b t e (gone generation n at late) same age = ⊎_elim
      (λ y. let none : hidden ≡ linked t.generation y.0 y.1 = one_at x.cells (own.index - 1) hidden (linked t.generation y.0 y.1) free (subst (λ (z : ℕ). At x.cells z (linked t.generation y.0 y.1)) same y.3) in cc)
      (λ y. let a = outs.indexed y.0 t y.2 in let c = ref.index.0 in let lt = name y.0 t y.2 (omega arith) in omega arith)
      (fits.lists.later i generation m n b t at e)

  -- so no key changed where such a link leads
  targets : (m : ℕ) → KeepsTargets x.cells (published m)
  targets m i k b a t was leads seen =
      let (c, there, same) = seen_turned n may.field (clean own) m in_range with_own at_node t a seen in
      ⊎_elim (λ p. absurd (unnamed i k b t leads was p.0 p.1.0)) (λ old. (c, old, same)) (seen_set x.cells (own.index - 1) own_cell t c there)

  -- and no other record is marked
  marks : (m : ℕ) → KeepsMarks x.cells (published m)
  marks m i k start b p = ⊎_elim
      (λ q. let is : body ≡ b = q.1.1 in absurd (own_plain q.1.0))
      (λ was. was)
      (marked_since x.cells (own.index - 1) hidden own_cell free i k start b (marked_turned n may.field (clean own) m in_range with_own at_node new_clear i k start b p))

  -- the table after the step
  abbrev after : ShapeInput
  after = record x { cells = set with_own n.index (relinked s x.cells near f old n (clean own) (length h.updates)) }

  -- linking an own record keeps the facts of the list
  pub lazy_publishes : (c number : ℕ) → LazyFits setup after × LazyTold setup after (grown h (update_for c number call))
  lazy_publishes c number =
      let made = publishes fits.lists told.list n 2 refl fits_next may free ref marked c number (omega arith) in (
        record { lists = made.0; up = rw (relinked_is fits.lists n may.field old_clear) (up_kept setup x.cells _ (targets _) (marks _) fits.up) },
        record { list = made.1; absences = rw (relinked_is fits.lists n may.field old_clear) (absences_kept setup x.cells _ (targets _) (marks _) h (update_for c number call) told.absences) },
      )
