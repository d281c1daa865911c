-- A new table's roots are empty, and hidden records matter no more.
use Rattle.std.proofs.Common.{◌≡◌, ℕ, ◌+◌, ◌-◌, List, Some, None, sym, ap, ◌∙◌, subst, ⊎_elim}
use Rattle.row_words.specs.Refs.{RefParts, LinkParts, refer}
use Rattle.record_memory.specs.declared.books.Setup.{Setup}
use Rattle.record_rule.specs.Inputs.{ShapeCell, hidden, root, linked, out, ShapeInput}
use Rattle.record_rule.specs.Facts.{At, key_at}
use Rattle.record_rule.specs.Laws.{root_body, opening_shape, HiddenCells}
use Rattle.record_rule.proofs.SeenCells.{cell_before, cell_after}
use Rattle.list_facts.proofs.Openings.{blank_link, opens}
use Rattle.one_key_facts.specs.OneKey.{LeadsToKey, IsUnder, CellFits, OneKeyFits}
use Rattle.one_key_facts.proofs.Cells.{fits_still}

pub opening_fits : (setup : Setup) → OneKeyFits (opening_shape setup)
opening_fits setup = record { each = λ i cell at. ⊎_elim (λ is. subst (CellFits (opening_shape setup).cells i) (sym is) blank_fits) (λ is. subst (CellFits (opening_shape setup).cells i) (sym is) tt) (opens setup i cell at) }
  where
    blank_fits : {i : ℕ} → CellFits (opening_shape setup).cells i (root setup.first (root_body setup.first) 0)
    blank_fits = (ap (λ (l : LinkParts). l.flags) (blank_link setup.first), λ t to. let none : None ≡ Some t = ap (λ (l : LinkParts). l.target) (sym (blank_link setup.first)) ∙ to in let no : ⊥ = cc in absurd no)

module _ (x : ShapeInput) (cells : List ShapeCell) (hid : HiddenCells x.cells cells) where
  record_after : (k : ℕ) (t : RefParts) → LeadsToKey x.cells t k → LeadsToKey cells t k
  record_after k t leads = (leads.0, leads.1, leads.2, cell_after x.cells cells hid (t.index - 1) (linked t.generation leads.0 leads.1) leads.3 (λ e q n b z. let no : ⊥ = cc in no), leads.4)

  root_after : (k : ℕ) (t : RefParts) → IsUnder x.cells k t → IsUnder cells k t
  root_after k t u = (u.0, u.1, u.2, cell_after x.cells cells hid k (root u.0 u.2 u.1) u.3 (λ e q n b z. let no : ⊥ = cc in no), u.4)

  pub hiding_fits : OneKeyFits x → OneKeyFits (record x { cells = cells })
  hiding_fits fits = record { each = by }
    where
      before : (i : ℕ) (cell : ShapeCell) → At cells i cell → (cell ≡ hidden → ⊥) → CellFits cells i cell
      before i cell at seen = fits_still x.cells cells i cell (λ g m b t is to leads. record_after i t leads) (λ g m b is u. root_after (key_at b) (refer (i + 1) g) u) (fits.each i cell (cell_before x.cells cells hid i cell at seen))

      by : (i : ℕ) (cell : ShapeCell) → At cells i cell → CellFits cells i cell
      by i hidden at = tt
      by i (root e b m) at = before i (root e b m) at (λ q. let no : ⊥ = cc in no)
      by i (linked e b m) at = before i (linked e b m) at (λ q. let no : ⊥ = cc in no)
      by i (out e b m n) at = before i (out e b m n) at (λ q. let no : ⊥ = cc in no)
