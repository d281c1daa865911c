-- The node of a step: which cell it is; and what fits still once cells were set.
use Rattle.std.proofs.Common.{◌≡◌, ◌≢◌, ℕ, ◌+◌, ◌-◌, List, set, Some, sym, refl, ap, ◌∙◌, subst, arith}
use Rattle.atomic_table.proofs.Lists.{set_else}
use Rattle.row_words.specs.Refs.{RefParts, LinkParts, refer}
use Rattle.record_memory.specs.declared.books.Note.{Note}
use Rattle.record_rule.specs.Inputs.{ShapeCell, hidden, root, linked, out, ShapeInput}
use Rattle.record_rule.specs.Facts.{At, link_at, key_at, clean, Near, at_root, at_held, ShapeFacts, FitsNote, FitsNear, is_root, is_linked, is_out}
use Rattle.record_rule.specs.Laws.{NodeIs, recelled}
use Rattle.record_rule.proofs.Lists.{one_at}
use Rattle.one_key_facts.specs.OneKey.{LeadsToKey, IsUnder, CellFits, OneKeyFits}

module _ {s : ShapeFacts} {cells : List ShapeCell} where
  -- a root's cell has its number
  pub root_there : {k i generation m : ℕ} {body : List ℕ} → FitsNear s cells (at_root k) i generation body m → (i ≡ k) × At cells i (root generation body m)
  root_there (is_root i generation m body at) = (refl, at)

  -- a node's cell with another body and position
  pub recelled_as : {near : Near} {f : ℕ} {l : LinkParts} (n : NodeIs s cells near f l) (cell : ShapeCell) → At cells n.index cell → (body : List ℕ) (m : ℕ) → recelled n.cell body m ≡ recelled cell body m
  recelled_as n cell at body m = ap (λ (c : ShapeCell). recelled c body m) (one_at cells n.index n.cell cell n.at at)

  -- what is noted of a held record is its body's
  pub noted : {r : RefParts} {note : Note} {i generation m : ℕ} {body : List ℕ} → FitsNear s cells (at_held r note) i generation body m → FitsNote s note body
  noted (is_linked i generation m body note at known) = known
  noted (is_out i generation m n body note at known) = known

  -- a held record is linked where a linked one stands
  pub linked_held : {r : RefParts} {note : Note} {i generation m : ℕ} {body : List ℕ} → FitsNear s cells (at_held r note) i generation body m → (g k : ℕ) (b : List ℕ) → At cells i (linked g b k) → At cells i (linked generation body m)
  linked_held (is_linked i generation m body note at known) g k b there = at
  linked_held (is_out i generation m n body note at known) g k b there = let e : out generation body m n ≡ linked g b k = one_at cells i _ _ at there in let no : ⊥ = cc in absurd no

-- two kinds of cells stand at two indices
pub apart : (cells : List ShapeCell) (i j : ℕ) (a b : ShapeCell) → At cells i a → At cells j b → a ≢ b → i ≢ j
apart cells i j a b here there differ same = differ (one_at cells j a b (subst (λ k. At cells k a) same here) there)

module _ {x : ShapeInput} (fits : OneKeyFits x) where
  -- a held record without a mark is linked
  pub linked_there : {s : ShapeFacts} {r : RefParts} {note : Note} {i generation m : ℕ} {body : List ℕ} → FitsNear s x.cells (at_held r note) i generation body m → (link_at body 3).flags ≡ 0 → At x.cells i (linked generation body m)
  linked_there (is_linked i generation m body note at known) clear = at
  linked_there (is_out i generation m n body note at known) clear = let marked = (fits.each i (out generation body m n) at).0 in absurd (omega arith)

  -- the root of a linked record's key leads to it alone
  pub under : (i generation m : ℕ) (body : List ℕ) → At x.cells i (linked generation body m) → IsUnder x.cells (key_at body) (refer (i + 1) generation)
  under i generation m body at = (fits.each i (linked generation body m) at).3

  -- so linked records of one key are one
  pub one_linked : (i j g h m k : ℕ) (a b : List ℕ) → At x.cells i (linked g a m) → At x.cells j (linked h b k) → key_at a ≡ key_at b → i ≡ j
  one_linked i j g h m k a b here there same =
      let p = under i g m a here in
      let q = under j h k b there in
      let cell_is : root p.0 p.2 p.1 ≡ root q.0 q.2 q.1 = one_at x.cells (key_at b) (root p.0 p.2 p.1) (root q.0 q.2 q.1) (subst (λ n. At x.cells n (root p.0 p.2 p.1)) same p.3) q.3 in
      let body_is : p.2 ≡ q.2 = cc in
      let link_is : clean (refer (i + 1) g) ≡ clean (refer (j + 1) h) = sym p.4 ∙ ap (λ (c : List ℕ). link_at c 3) body_is ∙ q.4 in
      let target_is : Some (refer (i + 1) g) ≡ Some (refer (j + 1) h) = ap (λ (l : LinkParts). l.target) link_is in
      let ref_is : refer (i + 1) g ≡ refer (j + 1) h = cc in
      let index_is : i + 1 ≡ j + 1 = ap (λ (r : RefParts). r.index) ref_is in
      omega arith

-- a cell fits still where what it speaks of is there still
pub fits_still : (cells cells' : List ShapeCell) (i : ℕ) (cell : ShapeCell)
    → ((generation m : ℕ) (body : List ℕ) (t : RefParts) → cell ≡ root generation body m → (link_at body 3).target ≡ Some t → LeadsToKey cells t i → LeadsToKey cells' t i)
    → ((generation m : ℕ) (body : List ℕ) → cell ≡ linked generation body m → IsUnder cells (key_at body) (refer (i + 1) generation) → IsUnder cells' (key_at body) (refer (i + 1) generation))
    → CellFits cells i cell → CellFits cells' i cell
fits_still cells cells' i hidden roots records fit = tt
fits_still cells cells' i (root generation body m) roots records fit = (fit.0, λ t to. roots generation m body t refl to (fit.1 t to))
fits_still cells cells' i (linked generation body m) roots records fit = (fit.0, fit.1, fit.2, records generation m body refl fit.3)
fits_still cells cells' i (out generation body m n) roots records fit = fit

-- a root is there still once another cell was set
pub under_else : (cells : List ShapeCell) (p n : ℕ) (cell : ShapeCell) (t : RefParts) → n ≢ p → IsUnder cells n t → IsUnder (set cells p cell) n t
under_else cells p n cell t ne u = (u.0, u.1, u.2, set_else cells p n cell ne ∙ u.3, u.4)

-- and so is a linked record
pub leads_key_else : (cells : List ShapeCell) (p k : ℕ) (cell : ShapeCell) (t : RefParts) → t.index - 1 ≢ p → LeadsToKey cells t k → LeadsToKey (set cells p cell) t k
leads_key_else cells p k cell t ne leads = (leads.0, leads.1, leads.2, set_else cells p (t.index - 1) cell ne ∙ leads.3, leads.4)
