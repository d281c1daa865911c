-- A held record is marked: the lists are still sorted, the removal is tied to it, and it is one that the set machine answers yes.
use Rattle.std.proofs.Common.{◌≡◌, ℕ, ◌+◌, ◌-◌, ◌%◌, List, length, set, false, Option, Some, sym, refl, ap, ◌∙◌, subst, arith}
use Rattle.std.proofs.lemmas.Bool.{eq-eqb, ne_eqb}
use Rattle.set_model.specs.declared.calls.Call.{Call}
use Rattle.set_model.specs.declared.calls.Call.TheVariants.{Remove}
use Rattle.row_words.specs.Refs.{LinkParts}
use Rattle.row_words.specs.Packing.{IsLink}
use Rattle.record_memory.specs.declared.books.Setup.{Setup}
use Rattle.record_rule.specs.Inputs.{ShapeCell, hidden, root, linked, out, ShapeInput, Trace}
use Rattle.record_rule.specs.Facts.{At, link_at, key_at, with_link, mark_bit, HasMark, Near, ShapeFacts, update_for}
use Rattle.record_rule.specs.Laws.{NodeIs, relinked, marked_after, grown}
use Rattle.list_facts.specs.Lists.{ListFits}
use Rattle.list_facts.specs.Tellings.{ListTold}
use Rattle.record_rule.specs.Machines.{set_legal}
use Rattle.list_facts.specs.Steps.{MayMark, rank_near}
use Rattle.list_facts.proofs.Bodies.{link_with_link, key_with_link, clear_flags, marked_new}
use Rattle.list_facts.proofs.Cells.{linked_spot}
use Rattle.list_facts.proofs.Nodes.{spot_near, record_near, rank_known, spot_held, clean_link, node_at, node_spot, relinked_is}
use Rattle.list_facts.proofs.Turning.{turn_fits}
use Rattle.list_facts.proofs.Present.{HasKey, MarkedAs}
use Rattle.list_facts.proofs.Told.{update, told_removed}

-- the only linked record with its key
one_linked : {flags : ℕ → Type 0} {setup : Setup} {x : ShapeInput} → ListFits flags setup x → (i generation m : ℕ) (body : List ℕ) → At x.cells i (linked generation body m) → (j : ℕ) (cell : ShapeCell) → At x.cells j cell → HasKey cell (key_at body) → j ≡ i
one_linked fits i generation m body at j hidden at' has = absurd has
one_linked fits i generation m body at j (root e b n) at' has = absurd has
one_linked {setup = setup} fits i generation m body at j (linked e b n) at' has = fits.one j i (linked_spot setup e b) (linked_spot setup generation body) (linked e b n, at', refl) (linked generation body m, at, refl) (ap (λ k. k % setup.roots) has.1) (ap (λ k. k + 1) has.1)
one_linked fits i generation m body at j (out e b n k) at' has = absurd has

-- `plain` are flags without the mark's
module _ {flags : ℕ → Type 0} {setup : Setup} {x : ShapeInput} {h : Trace} (fits : ListFits flags setup x) (told : ListTold x h) {s : ShapeFacts} {near : Near} {f : ℕ} {old new : LinkParts} {call : Option Call} (n : NodeIs s x.cells near f old) (in_range : IsLink new)
    (plain : ℕ) (even : plain % 2 ≡ 0) (may : MayMark plain setup near f old new call) where
  -- the mark is new
  old_clear : ¬ HasMark old
  old_clear = clear_flags old plain even may.3

  -- and is there then
  new_mark : HasMark new
  new_mark = ap mark_bit may.4

  -- the node was linked
  was_linked : At x.cells n.index (linked n.generation n.body n.marked)
  was_linked = subst (At x.cells n.index) (record_near near n.generation n.marked n.body may.1) (node_at fits n may.0 old_clear)

  -- its link had no mark
  was_clean : ¬ HasMark (link_at n.body 3)
  was_clean = clean_link n may.0 old_clear

  -- the key that the caller knows is its key
  key_is : rank_near near - 1 ≡ key_at n.body
  key_is = omega (arith, rank_known n.fits may.2, (spot_held setup (spot_near s setup near n.generation n.body) n.fits may.1 (node_spot fits n may.0 old_clear)).1)

  -- so that is the key of the call
  pub call_is : call ≡ Some (Remove (key_at n.body))
  call_is = may.5 ∙ ap (λ k. Some (Remove k)) key_is

  -- its link has one now
  has_mark : HasMark (link_at (with_link n.body f n.generation new) 3)
  has_mark = ap mark_bit (link_with_link n.body f n.generation new may.0 n.long in_range) ∙ new_mark

  -- the cell once it is marked
  abbrev with_mark : ShapeCell
  with_mark = linked n.generation (with_link n.body f n.generation new) (marked_after n.marked old new (length h.updates))

  -- its position is the update's, and its key is the node's
  removal_is : (m : ℕ) (body : List ℕ) → MarkedAs with_mark body m → (m ≡ length h.updates + 1) × (key_at body ≡ key_at n.body)
  removal_is m body is = (sym is.2 ∙ marked_new n.marked (length h.updates) old new old_clear new_mark, ap key_at (sym is.1) ∙ key_with_link n.body f n.generation new may.0)

  -- the key is gone with the mark, and the removal counted
  mark_told : (c number : ℕ) → ListTold (record x { cells = set x.cells n.index with_mark }) (grown h (Some (update c number (key_at n.body) false)))
  mark_told c number = told_removed told n.index (linked n.generation n.body n.marked) with_mark was_linked c number (key_at n.body)
      (was_clean, refl) (one_linked fits n.index n.generation n.marked n.body was_linked) (λ q has. has.0 has_mark) removal_is
      (ne_eqb (mark_bit (link_at n.body 3)) 1 was_clean) (eq-eqb (mark_bit (link_at (with_link n.body f n.generation new) 3)) 1 has_mark)

  -- the key was in the set
  pub mark_legal : (c number : ℕ) → set_legal h.updates (update c number (key_at n.body) false)
  mark_legal c number = (told.keys (key_at n.body)).1 (n.index, n.generation, n.marked, n.body, was_linked, was_clean, refl)

  -- the table after the step
  abbrev marked : ShapeInput
  marked = record x { cells = set x.cells n.index (relinked s x.cells near f old n new (length h.updates)) }

  -- a mark keeps the lists sorted, and what ties them to the history
  pub marks : (c number : ℕ) → flags 1 → ListFits flags setup marked × ListTold marked (grown h (update_for c number call))
  marks c number flagged = (
    rw (relinked_is fits n may.0 old_clear) (turn_fits fits n may.0 old_clear new _ in_range (ap (λ (l : LinkParts). l.target) may.4) (rw may.4 flagged) (λ root. absurd (root may.1))),
    rw (relinked_is fits n may.0 old_clear, record_near near n.generation _ _ may.1, call_is) (mark_told c number),
  )
