-- A marked record is taken out behind its root: the facts stay, and no key comes or goes.
use Rattle.std.proofs.Common.{◌≡◌, ◌≢◌, ℕ, ◌+◌, ◌-◌, List, [], ◌∷◌, ◌++◌, length, length-append, set, ⊎_elim, Option, Some, None, sym, refl, ap, ◌∙◌, subst, arith}
use Rattle.std.proofs.lemmas.Bool.{eq-eqb}
use Rattle.atomic_table.proofs.Lists.{at_set, set_else}
use Rattle.set_model.specs.declared.calls.Call.{Call}
use Rattle.row_words.specs.Refs.{RefParts, LinkParts, refer}
use Rattle.row_words.specs.Packing.{packed_link, link_in, IsLink}
use Rattle.row_words.proofs.Packed.{link_in-packed_link}
use Rattle.record_memory.specs.declared.books.Note.{Note}
use Rattle.record_rule.specs.Inputs.{ShapeCell, root, linked, out, ShapeInput, Trace}
use Rattle.record_rule.specs.Facts.{At, link_at, key_at, with_link, mark_bit, HasMark, at_root, at_held, ShapeFacts, FitsNear}
use Rattle.record_rule.specs.Laws.{NodeIs, relinked, marked_after, grown}
use Rattle.record_rule.proofs.Lists.{one_at}
use Rattle.list_facts.specs.Tellings.{ListTold}
use Rattle.list_facts.proofs.Bodies.{link_with_link, clear_flags}
use Rattle.list_facts.proofs.Nodes.{index_held, link_is as node_link}
use Rattle.list_facts.proofs.Told.{told_moved, told_turned}
use Rattle.one_key_facts.specs.OneKey.{empty, empty_marked, LeadsToKey, IsUnder, CellFits, OneKeyFits, MayTakeOut}
use Rattle.one_key_facts.proofs.Cells.{noted, root_there, recelled_as, linked_held, apart, fits_still, under_else, leads_key_else}

module _ {x : ShapeInput} (fits : OneKeyFits x) {s : ShapeFacts} {f key : ℕ} {old : LinkParts} (n : NodeIs s x.cells (at_root key) f old) (field : f ≡ 3) {gone : RefParts} (to : old.target ≡ Some gone) where
  pub was_root : At x.cells n.index (root n.generation n.body n.marked)
  was_root = (root_there n.fits).1

  -- what a root leads to is the linked record with its key
  pub leads_there : LeadsToKey x.cells gone n.index
  leads_there = (fits.each n.index (root n.generation n.body n.marked) was_root).1 gone (ap (λ (l : LinkParts). l.target) (node_link n field) ∙ to)

  -- and no root
  pub not_root : n.index ≢ gone.index - 1
  not_root = apart x.cells n.index (gone.index - 1) (root n.generation n.body n.marked) (linked gone.generation leads_there.0 leads_there.1) was_root leads_there.3 (λ e. let no : ⊥ = cc in no)

  module _ {h : Trace} (told : ListTold x h) {note : Note} {new : LinkParts} {call : Option Call} {i generation k : ℕ} {body : List ℕ} (held : FitsNear s x.cells (at_held gone note) i generation body k)
      (in_range : IsLink new) (may : MayTakeOut (at_root key) f old (at_held gone note) new call) where
    pub old_clean : ¬ HasMark old
    old_clean = clear_flags old 0 refl may.1

    new_clean : ¬ HasMark new
    new_clean = clear_flags new 0 refl (ap (λ (l : LinkParts). l.flags) may.3)

    -- the record's link is known
    gone_link : link_at body 3 ≡ empty_marked
    gone_link = ap link_in (noted held 0 (packed_link may.2.0 empty_marked) may.2.1).0 ∙ link_in-packed_link may.2.0 empty_marked record { flags = omega arith; target = tt }

    gone_mark : HasMark (link_at body 3)
    gone_mark = ap mark_bit gone_link

    -- it is the linked one
    linked_here : At x.cells i (linked gone.generation leads_there.0 leads_there.1)
    linked_here = subst (λ j. At x.cells j (linked gone.generation leads_there.0 leads_there.1)) (index_held held) leads_there.3

    gone_linked : At x.cells i (linked generation body k)
    gone_linked = linked_held held gone.generation leads_there.1 leads_there.0 linked_here

    body_is : leads_there.0 ≡ body
    body_is = let same : linked gone.generation leads_there.0 leads_there.1 ≡ linked generation body k = one_at x.cells i _ _ linked_here gone_linked in cc

    -- its key is the root's number
    key_is : key_at body ≡ n.index
    key_is = ap key_at (sym body_is) ∙ leads_there.4

    else : n.index ≢ i
    else e = not_root (e ∙ sym (index_held held))

    module _ (m : ℕ) where
      abbrev gone_cell : ShapeCell
      gone_cell = out generation body k (length x.taken_out)

      abbrev with_gone : List ShapeCell
      with_gone = set x.cells i gone_cell

      abbrev body_after : List ℕ
      body_after = with_link n.body f n.generation new

      abbrev root_after : ShapeCell
      root_after = root n.generation body_after m

      abbrev cells_after : List ShapeCell
      cells_after = set with_gone n.index root_after

      link_after : link_at body_after 3 ≡ empty
      link_after = link_with_link n.body f n.generation new field n.long in_range ∙ may.3

      at_root_still : At with_gone n.index (root n.generation n.body n.marked)
      at_root_still = set_else x.cells i n.index gone_cell else ∙ was_root

      -- a record behind another root stands still
      record_still : (j : ℕ) (t : RefParts) → j ≢ n.index → LeadsToKey x.cells t j → LeadsToKey cells_after t j
      record_still j t differs leads =
          let no_root = apart x.cells (t.index - 1) n.index (linked t.generation leads.0 leads.1) (root n.generation n.body n.marked) leads.3 was_root (λ e. let no : ⊥ = cc in no) in
          leads_key_else with_gone n.index j root_after t no_root (leads_key_else x.cells i j gone_cell t (λ e. differs (other e)) leads)
        where
          other : t.index - 1 ≡ i → j ≡ n.index
          other e =
              let same : linked t.generation leads.0 leads.1 ≡ linked generation body k = one_at x.cells i _ _ (subst (λ p. At x.cells p (linked t.generation leads.0 leads.1)) e leads.3) gone_linked in
              let is : leads.0 ≡ body = cc in
              sym leads.4 ∙ ap key_at is ∙ key_is

      -- and another record's root does
      root_still : (q j g : ℕ) → j ≢ i → IsUnder x.cells q (refer (j + 1) g) → IsUnder cells_after q (refer (j + 1) g)
      root_still q j g differs u =
          let no_record = apart x.cells q i (root u.0 u.2 u.1) (linked generation body k) u.3 gone_linked (λ e. let no : ⊥ = cc in no) in
          under_else with_gone n.index q root_after (refer (j + 1) g) (λ e. differs (same e)) (under_else x.cells i q gone_cell (refer (j + 1) g) no_record u)
        where
          same : q ≡ n.index → j ≡ i
          same e =
              let cell_is : root u.0 u.2 u.1 ≡ root n.generation n.body n.marked = one_at x.cells n.index _ _ (subst (λ p. At x.cells p (root u.0 u.2 u.1)) e u.3) was_root in
              let is : u.2 ≡ n.body = cc in
              let target_is : Some (refer (j + 1) g) ≡ Some gone = ap (λ (l : LinkParts). l.target) (sym u.4 ∙ ap (λ (b : List ℕ). link_at b 3) is ∙ node_link n field) ∙ to in
              let index_is : j + 1 ≡ gone.index = cc in
              let at = index_held held in omega arith

      still : (j : ℕ) (c : ShapeCell) → j ≢ n.index → j ≢ i → At x.cells j c → CellFits cells_after j c
      still j c no_root no_record at = fits_still x.cells cells_after j c (λ g p b t is leads_to leads. record_still j t no_root leads) (λ g p b is u. root_still (key_at b) j g no_record u) (fits.each j c at)

      gone_fits : CellFits cells_after i gone_cell
      gone_fits = (ap (λ (l : LinkParts). l.flags) gone_link, ap (λ (l : LinkParts). l.target) gone_link)

      root_fits : CellFits cells_after n.index root_after
      root_fits = (ap (λ (l : LinkParts). l.flags) link_after, λ t is. let none : None ≡ Some t = ap (λ (l : LinkParts). l.target) (sym link_after) ∙ is in let no : ⊥ = cc in absurd no)

      each_after : (j : ℕ) (c : ShapeCell) → At cells_after j c → CellFits cells_after j c
      each_after j c at = ⊎_elim
          (λ t. subst (λ p. CellFits cells_after p c) (sym t.0) (subst (CellFits cells_after n.index) t.1 root_fits))
          (λ t. ⊎_elim (λ u. subst (λ p. CellFits cells_after p c) (sym u.0) (subst (CellFits cells_after i) u.1 gone_fits)) (λ u. still j c t.0 u.0 u.1) (at_set x.cells i j gone_cell c t.1))
          (at_set with_gone n.index j root_after c at)

      take_fits : OneKeyFits (record x { cells = cells_after; taken_out = x.taken_out ++ gone ∷ [] })
      take_fits = record { each = each_after }

      -- a marked record counts as before once it is taken out, and has no key
      gone_told : ListTold (record x { cells = with_gone; taken_out = x.taken_out ++ gone ∷ [] }) h
      gone_told = told_moved told i (linked generation body k) gone_cell gone_linked (x.taken_out ++ gone ∷ []) (λ q has. has.0 gone_mark) (λ q has. absurd has) (λ j last is. (gone_mark, is.0, is.1))
          (rw (eq-eqb (mark_bit (link_at body 3)) 1 gone_mark) (omega (arith, length-append x.taken_out (gone ∷ []))))

      take_told : ListTold (record x { cells = cells_after; taken_out = x.taken_out ++ gone ∷ [] }) h
      take_told = told_turned n field old_clean new m in_range new_clean gone_told at_root_still

    -- the table after the step
    abbrev after : ShapeInput
    after = record x { cells = set (set x.cells i (out generation body k (length x.taken_out))) n.index (relinked s x.cells (at_root key) f old n new (length h.updates)); taken_out = x.taken_out ++ gone ∷ [] }

    pub takes : OneKeyFits after × ListTold after (grown h None)
    takes = (
      rw (recelled_as n _ was_root (with_link n.body f n.generation new) (marked_after n.marked old new (length h.updates))) (take_fits (marked_after n.marked old new (length h.updates))),
      rw (recelled_as n _ was_root (with_link n.body f n.generation new) (marked_after n.marked old new (length h.updates))) (take_told (marked_after n.marked old new (length h.updates))),
    )
