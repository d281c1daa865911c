-- A held record is marked: the facts stay, the removal is tied to it, and it is one that the set machine answers yes.
use Rattle.std.proofs.Common.{◌≡◌, ◌≢◌, ℕ, ◌+◌, ◌-◌, List, length, set, false, ◌⊎◌, inl, inr, Option, Some, sym, refl, ap, ◌∙◌, subst, arith}
use Rattle.std.proofs.lemmas.Bool.{eq-eqb, ne_eqb, cases_eq}
use Rattle.atomic_table.proofs.Lists.{set_here}
use Rattle.set_model.specs.declared.calls.Call.{Call}
use Rattle.set_model.specs.declared.calls.Call.TheVariants.{Remove}
use Rattle.row_words.specs.Refs.{RefParts, LinkParts, refer}
use Rattle.row_words.specs.Packing.{IsLink, key_in, kind_in}
use Rattle.record_memory.specs.declared.books.Note.{Note}
use Rattle.record_rule.specs.Inputs.{ShapeCell, hidden, root, linked, out, ShapeInput, Trace}
use Rattle.record_rule.specs.Facts.{At, link_at, key_at, with_link, mark_bit, HasMark, at_held, ShapeFacts, update_for}
use Rattle.record_rule.specs.Laws.{NodeIs, relinked, marked_after, grown}
use Rattle.record_rule.specs.Machines.{set_legal}
use Rattle.record_rule.proofs.Lists.{below_at, one_at, each_set}
use Rattle.list_facts.specs.Tellings.{ListTold}
use Rattle.list_facts.specs.Steps.{marked_with}
use Rattle.list_facts.proofs.Bodies.{link_with_link, key_word_with_link, key_with_link, clear_flags, marked_new}
use Rattle.list_facts.proofs.Nodes.{link_is as node_link}
use Rattle.list_facts.proofs.Present.{HasKey, MarkedAs}
use Rattle.list_facts.proofs.Told.{update, told_removed}
use Rattle.one_key_facts.specs.OneKey.{LeadsToKey, IsUnder, CellFits, OneKeyFits, MayMark}
use Rattle.one_key_facts.proofs.Cells.{noted, recelled_as, apart, linked_there, one_linked, fits_still, under_else, leads_key_else}

-- a cell that has a key is the linked record with that key
only_one : {x : ShapeInput} → OneKeyFits x → (i generation m : ℕ) (body : List ℕ) → At x.cells i (linked generation body m) → (j : ℕ) (cell : ShapeCell) → At x.cells j cell → HasKey cell (key_at body) → j ≡ i
only_one fits i generation m body at j hidden there has = absurd has
only_one fits i generation m body at j (root e b n) there has = absurd has
only_one fits i generation m body at j (linked e b n) there has = one_linked fits j i e generation n m b body there at has.1
only_one fits i generation m body at j (out e b n k) there has = absurd has

module _ {x : ShapeInput} {h : Trace} (fits : OneKeyFits x) (told : ListTold x h) {s : ShapeFacts} {r : RefParts} {note : Note} {f : ℕ} {old new : LinkParts} {call : Option Call} (n : NodeIs s x.cells (at_held r note) f old) (in_range : IsLink new)
    (may : MayMark (at_held r note) f old new call) where
  -- the node's link had no flags
  was_clear : (link_at n.body 3).flags ≡ 0
  was_clear = ap (λ (l : LinkParts). l.flags) (node_link n may.0) ∙ may.1

  -- so it was linked
  pub was_linked : At x.cells n.index (linked n.generation n.body n.marked)
  was_linked = linked_there fits n.fits was_clear

  was_clean : ¬ HasMark (link_at n.body 3)
  was_clean = clear_flags (link_at n.body 3) 0 refl was_clear

  old_clean : ¬ HasMark old
  old_clean = clear_flags old 0 refl may.1

  new_mark : HasMark new
  new_mark = ap mark_bit may.2

  -- its key is the one that the call names
  pub key_is : key_in may.3.0 ≡ key_at n.body
  key_is = ap key_in (sym (noted n.fits 1 may.3.0 may.3.1).0)

  pub call_is : call ≡ Some (Remove (key_at n.body))
  call_is = may.3.2 ∙ ap (λ k. Some (Remove k)) key_is

  -- its body once it is marked
  abbrev body_after : List ℕ
  body_after = with_link n.body f n.generation new

  link_after : link_at body_after 3 ≡ new
  link_after = link_with_link n.body f n.generation new may.0 n.long in_range

  key_after : key_at body_after ≡ key_at n.body
  key_after = key_with_link n.body f n.generation new may.0

  abbrev marked_at : ℕ
  marked_at = marked_after n.marked old new (length h.updates)

  -- its cell
  abbrev cell_after : ShapeCell
  cell_after = linked n.generation body_after marked_at

  abbrev cells_after : List ShapeCell
  cells_after = set x.cells n.index cell_after

  here : At cells_after n.index cell_after
  here = set_here x.cells n.index cell_after (below_at x.cells n.index _ was_linked)

  -- a root is there still
  root_still : (k : ℕ) (t : RefParts) → IsUnder x.cells k t → IsUnder cells_after k t
  root_still k t u = under_else x.cells n.index k cell_after t (apart x.cells k n.index (root u.0 u.2 u.1) (linked n.generation n.body n.marked) u.3 was_linked (λ e. let no : ⊥ = cc in no)) u

  -- a linked record is, with its key
  record_still : (k : ℕ) (t : RefParts) → LeadsToKey x.cells t k → (t.index - 1 ≡ n.index) ⊎ (t.index - 1 ≢ n.index) → LeadsToKey cells_after t k
  record_still k t leads (inr ne) = leads_key_else x.cells n.index k cell_after t ne leads
  record_still k t leads (inl e) =
      let same : linked t.generation leads.0 leads.1 ≡ linked n.generation n.body n.marked = one_at x.cells n.index _ _ (subst (λ j. At x.cells j (linked t.generation leads.0 leads.1)) e leads.3) was_linked in
      let generation_is : n.generation ≡ t.generation = cc in
      let body_is : n.body ≡ leads.0 = cc in
      let there : At cells_after n.index (linked t.generation body_after marked_at) = subst (λ g. At cells_after n.index (linked g body_after marked_at)) generation_is here in
      (body_after, marked_at, leads.2, subst (λ j. At cells_after j (linked t.generation body_after marked_at)) (sym e) there, key_after ∙ ap key_at body_is ∙ leads.4)

  -- the marked record fits
  marked_fits : CellFits cells_after n.index cell_after
  marked_fits =
      let was = fits.each n.index (linked n.generation n.body n.marked) was_linked in
      let flags_are : (link_at body_after 3).flags ≡ 1 = ap (λ (l : LinkParts). l.flags) (link_after ∙ may.2) in
      let target_is = ap (λ (l : LinkParts). l.target) (link_after ∙ may.2 ∙ ap marked_with (sym (node_link n may.0))) in
      (omega arith, target_is ∙ was.1, ap kind_in (key_word_with_link n.body f n.generation new may.0) ∙ was.2, subst (λ k. IsUnder cells_after k (refer (n.index + 1) n.generation)) (sym key_after) (root_still (key_at n.body) (refer (n.index + 1) n.generation) was.3))

  mark_fits : OneKeyFits (record x { cells = cells_after })
  mark_fits = record {
    each = each_set (λ j c. CellFits cells_after j c) x.cells n.index cell_after
        (λ j c at. fits_still x.cells cells_after j c (λ g m b t is to leads. record_still j t leads (cases_eq (t.index - 1) n.index)) (λ g m b is u. root_still (key_at b) (refer (j + 1) g) u) (fits.each j c at))
        marked_fits;
  }

  -- its position is the update's, and its key is the node's
  removal_is : (m : ℕ) (body : List ℕ) → MarkedAs cell_after body m → (m ≡ length h.updates + 1) × (key_at body ≡ key_at n.body)
  removal_is m body is = (sym is.2 ∙ marked_new n.marked (length h.updates) old new old_clean new_mark, ap key_at (sym is.1) ∙ key_after)

  has_mark : HasMark (link_at body_after 3)
  has_mark = ap mark_bit link_after ∙ new_mark

  -- the key is gone with the mark, and the removal counted
  mark_told : (c number : ℕ) → ListTold (record x { cells = cells_after }) (grown h (Some (update c number (key_at n.body) false)))
  mark_told c number = told_removed told n.index (linked n.generation n.body n.marked) cell_after was_linked c number (key_at n.body)
      (was_clean, refl) (only_one fits n.index n.generation n.marked n.body was_linked) (λ q has. has.0 has_mark) removal_is
      (ne_eqb (mark_bit (link_at n.body 3)) 1 was_clean) (eq-eqb (mark_bit (link_at body_after 3)) 1 has_mark)

  -- the key was in the set
  pub mark_legal : (c number : ℕ) → set_legal h.updates (update c number (key_at n.body) false)
  mark_legal c number = (told.keys (key_at n.body)).1 (n.index, n.generation, n.marked, n.body, was_linked, was_clean, refl)

  -- the table after the step
  abbrev after : ShapeInput
  after = record x { cells = set x.cells n.index (relinked s x.cells (at_held r note) f old n new (length h.updates)) }

  pub marks : (c number : ℕ) → OneKeyFits after × ListTold after (grown h (update_for c number call))
  marks c number = (
    rw (recelled_as n _ was_linked body_after marked_at) mark_fits,
    rw (recelled_as n _ was_linked body_after marked_at, call_is) (mark_told c number),
  )
