-- An own record is linked behind an empty root: the facts stay, the insertion is tied to it, and it is one that the set machine answers yes.
use Rattle.std.proofs.Common.{◌≡◌, ◌≢◌, ℕ, ◌+◌, ◌-◌, List, length, set, true, Option, Some, None, sym, refl, ap, ◌∙◌, subst, arith}
use Rattle.std.proofs.lemmas.Bool.{ne_eqb, not_from_false, false_from_ne_true}
use Rattle.atomic_table.proofs.Lists.{set_here, set_else}
use Rattle.set_model.specs.declared.calls.Call.{Call}
use Rattle.set_model.specs.Keys.{contains}
use Rattle.set_model.specs.Histories.{keys_of}
use Rattle.row_words.specs.Refs.{RefParts, LinkParts, IsRef, refer}
use Rattle.row_words.specs.Packing.{link_in, key_in, kind_in, IsLink}
use Rattle.row_words.proofs.Packed.{link_in-packed_link, key_in-packed_key, kind_in-packed_key}
use Rattle.record_rule.specs.Inputs.{ShapeCell, hidden, root, linked, ShapeInput, Trace}
use Rattle.record_rule.specs.Facts.{At, word_in, link_at, key_at, with_link, mark_bit, HasMark, clean, at_root, ShapeFacts, update_for}
use Rattle.record_rule.specs.Laws.{NodeIs, relinked, marked_after, grown}
use Rattle.record_rule.specs.Machines.{set_legal}
use Rattle.record_rule.proofs.Lists.{below_at, one_at, each_set}
use Rattle.list_facts.specs.Tellings.{IsPresent, ListTold}
use Rattle.list_facts.proofs.Bodies.{link_with_link, clear_flags}
use Rattle.list_facts.proofs.Told.{update, told_added, told_turned}
use Rattle.list_facts.proofs.Nodes.{link_is as node_link}
use Rattle.one_key_facts.specs.OneKey.{empty, LeadsToKey, IsUnder, CellFits, OneKeyFits, MayLink}
use Rattle.one_key_facts.proofs.Cells.{root_there, recelled_as, apart, under, fits_still, under_else, leads_key_else}

module _ {x : ShapeInput} {h : Trace} (fits : OneKeyFits x) (told : ListTold x h) {s : ShapeFacts} {f key : ℕ} {old : LinkParts} {body : List ℕ} {call : Option Call} (n : NodeIs s x.cells (at_root key) f old) (may : MayLink (at_root key) f old body call) where
  -- the root has the key's number
  index_is : n.index ≡ may.key
  index_is = let at : at_root key ≡ at_root may.key = may.at in let same : key ≡ may.key = cc in (root_there n.fits).0 ∙ same

  was_root : At x.cells n.index (root n.generation n.body n.marked)
  was_root = (root_there n.fits).1

  link_was : link_at n.body 3 ≡ empty
  link_was = node_link n may.field ∙ may.free

  pub old_clean : ¬ HasMark old
  old_clean = clear_flags old 0 refl (ap (λ (l : LinkParts). l.flags) may.free)

  own_key : key_at body ≡ may.key
  own_key = ap key_in may.node.key_is ∙ key_in-packed_key may.generation 0 may.key may.node.key_fits

  own_kind : kind_in (word_in body 4) ≡ 0
  own_kind = ap kind_in may.node.key_is ∙ kind_in-packed_key may.generation 0 may.key (omega arith) may.node.key_fits

  own_link : link_at body 3 ≡ empty
  own_link = ap link_in may.node.link_is ∙ link_in-packed_link may.generation empty record { flags = omega arith; target = tt }

  own_clean : ¬ HasMark (link_at body 3)
  own_clean = clear_flags (link_at body 3) 0 refl (ap (λ (l : LinkParts). l.flags) own_link)

  -- a record that is linked isn't behind this root
  not_under : (t : RefParts) → IsUnder x.cells n.index t → ⊥
  not_under t u =
      let cell_is : root u.0 u.2 u.1 ≡ root n.generation n.body n.marked = one_at x.cells n.index _ _ u.3 was_root in
      let body_is : u.2 ≡ n.body = cc in
      let link_is : clean t ≡ empty = sym u.4 ∙ ap (λ (b : List ℕ). link_at b 3) body_is ∙ link_was in
      let target_is : Some t ≡ None = ap (λ (l : LinkParts). l.target) link_is in
      cc

  -- so the key isn't present
  pub no_key : IsPresent x.cells may.key → ⊥
  no_key p = not_under (refer (p.0 + 1) p.1) (subst (λ k. IsUnder x.cells k (refer (p.0 + 1) p.1)) (p.6 ∙ sym index_is) (under fits p.0 p.1 p.2 p.3 p.4))

  pub link_legal : (c number : ℕ) → set_legal h.updates (update c number may.key true)
  link_legal c number = not_from_false (contains (keys_of h.updates) may.key) (false_from_ne_true (contains (keys_of h.updates) may.key) (λ has. no_key ((told.keys may.key).0 has)))

  module _ {own : RefParts} (free : At x.cells (own.index - 1) hidden) (ref : IsRef own) (marked m : ℕ) where
    abbrev own_cell : ShapeCell
    own_cell = linked own.generation body marked

    abbrev with_own : List ShapeCell
    with_own = set x.cells (own.index - 1) own_cell

    abbrev body_after : List ℕ
    body_after = with_link n.body f n.generation (clean own)

    abbrev root_after : ShapeCell
    root_after = root n.generation body_after m

    abbrev cells_after : List ShapeCell
    cells_after = set with_own n.index root_after

    in_range : IsLink (clean own)
    in_range = record { flags = omega arith; target = ref }

    new_clean : ¬ HasMark (clean own)
    new_clean = clear_flags (clean own) 0 refl refl

    link_after : link_at body_after 3 ≡ clean own
    link_after = link_with_link n.body f n.generation (clean own) may.field n.long in_range

    else : n.index ≢ own.index - 1
    else = apart x.cells n.index (own.index - 1) (root n.generation n.body n.marked) hidden was_root free (λ e. let no : ⊥ = cc in no)

    at_root_still : At with_own n.index (root n.generation n.body n.marked)
    at_root_still = set_else x.cells (own.index - 1) n.index own_cell else ∙ was_root

    own_here : At cells_after (own.index - 1) own_cell
    own_here = set_else with_own n.index (own.index - 1) root_after (λ e. else (sym e)) ∙ set_here x.cells (own.index - 1) own_cell (below_at x.cells (own.index - 1) hidden free)

    root_here : At cells_after n.index root_after
    root_here = set_here with_own n.index root_after (below_at with_own n.index _ at_root_still)

    named : refer (own.index - 1 + 1) own.generation ≡ own
    named = let low = ref.index.0 in let same : own.index - 1 + 1 ≡ own.index = omega arith in ap (λ (i : ℕ). refer i own.generation) same

    -- what stood stands still
    record_still : (k : ℕ) (t : RefParts) → LeadsToKey x.cells t k → LeadsToKey cells_after t k
    record_still k t leads =
        let fresh = apart x.cells (t.index - 1) (own.index - 1) (linked t.generation leads.0 leads.1) hidden leads.3 free (λ e. let no : ⊥ = cc in no) in
        let no_root = apart x.cells (t.index - 1) n.index (linked t.generation leads.0 leads.1) (root n.generation n.body n.marked) leads.3 was_root (λ e. let no : ⊥ = cc in no) in
        leads_key_else with_own n.index k root_after t no_root (leads_key_else x.cells (own.index - 1) k own_cell t fresh leads)

    root_still : (k : ℕ) (t : RefParts) → IsUnder x.cells k t → IsUnder cells_after k t
    root_still k t u =
        let fresh = apart x.cells k (own.index - 1) (root u.0 u.2 u.1) hidden u.3 free (λ e. let no : ⊥ = cc in no) in
        under_else with_own n.index k root_after t (λ e. not_under t (subst (λ j. IsUnder x.cells j t) e u)) (under_else x.cells (own.index - 1) k own_cell t fresh u)

    still : (j : ℕ) (c : ShapeCell) → At x.cells j c → CellFits cells_after j c
    still j c at = fits_still x.cells cells_after j c (λ g k b t is to leads. record_still j t leads) (λ g k b is u. root_still (key_at b) (refer (j + 1) g) u) (fits.each j c at)

    -- and the two that were set fit
    own_fits : CellFits cells_after (own.index - 1) own_cell
    own_fits = (
      (let flags_are = ap (λ (l : LinkParts). l.flags) own_link in omega arith),
      ap (λ (l : LinkParts). l.target) own_link,
      own_kind,
      subst (λ k. IsUnder cells_after k (refer (own.index - 1 + 1) own.generation)) (index_is ∙ sym own_key) (subst (IsUnder cells_after n.index) (sym named) (n.generation, m, body_after, root_here, link_after)),
    )

    root_fits : CellFits cells_after n.index root_after
    root_fits = (
      ap (λ (l : LinkParts). l.flags) link_after,
      λ t to. let is : Some own ≡ Some t = ap (λ (l : LinkParts). l.target) (sym link_after) ∙ to in let same : own ≡ t = cc in
          subst (λ (u : RefParts). LeadsToKey cells_after u n.index) same (body, marked, ref.index.0, own_here, own_key ∙ sym index_is),
    )

    link_fits : OneKeyFits (record x { cells = cells_after })
    link_fits = record { each = each_set (λ j c. CellFits cells_after j c) with_own n.index root_after (each_set (λ j c. CellFits cells_after j c) x.cells (own.index - 1) own_cell still own_fits) root_fits }

    link_told : (c number : ℕ) → ListTold (record x { cells = cells_after }) (grown h (Some (update c number may.key true)))
    link_told c number = told_turned n may.field old_clean (clean own) m in_range new_clean
        (told_added told (own.index - 1) hidden own_cell free c number may.key (λ q has. has) (own_clean, own_key) (λ k b is. own_clean is.0) (sym (ne_eqb (mark_bit (link_at body 3)) 1 own_clean)))
        at_root_still

  module _ {own : RefParts} (free : At x.cells (own.index - 1) hidden) (ref : IsRef own) (marked : ℕ) where
    -- the table after the step
    abbrev after : ShapeInput
    after = record x { cells = set (set x.cells (own.index - 1) (linked own.generation body marked)) n.index (relinked s x.cells (at_root key) f old n (clean own) (length h.updates)) }

    pub links : (c number : ℕ) → OneKeyFits after × ListTold after (grown h (update_for c number call))
    links c number = (
      rw (recelled_as n _ was_root (with_link n.body f n.generation (clean own)) (marked_after n.marked old (clean own) (length h.updates))) (link_fits free ref marked (marked_after n.marked old (clean own) (length h.updates))),
      rw (recelled_as n _ was_root (with_link n.body f n.generation (clean own)) (marked_after n.marked old (clean own) (length h.updates)), may.decides) (link_told free ref marked (marked_after n.marked old (clean own) (length h.updates)) c number),
    )
