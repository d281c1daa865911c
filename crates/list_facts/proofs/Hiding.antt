-- Records that leave limbo matter no more to a list.
use Rattle.std.proofs.Common.{◌≡◌, ℕ, suc, ◌+◌, ◌-◌, List, [], ◌∷◌, length, Some, None, sym, refl, ap, ◌∙◌, subst, arith, inl, inr, ⊎_elim, cond}
use Rattle.std.specs.List.{count_by}
use Rattle.std.proofs.lemmas.List.Sums.{sum_by-cons}
use mathlib.Core.Option.{some-injective}
use Rattle.record_memory.specs.declared.books.Setup.{Setup}
use Rattle.record_rule.specs.Inputs.{ShapeCell, hidden, root, linked, out, ShapeInput, Trace}
use Rattle.record_rule.specs.Facts.{At}
use Rattle.record_rule.specs.Laws.{LeadsTo, IsHidden, hides_, keeps_, HiddenCells}
use Rattle.record_rule.proofs.SeenCells.{cell_before, cell_after, leads_after}
use Rattle.list_facts.specs.Lists.{Spot, spot, IsSpot, IsSorted, ListFits}
use Rattle.list_facts.specs.Tellings.{IsPresent, IsMarked, still, gone, is_marked_cell, ListTold}

module _ (cells cells' : List ShapeCell) (h : HiddenCells cells cells') where
  spot_before : (setup : Setup) (i : ℕ) (a : Spot) → IsSpot setup cells' i a → IsSpot setup cells i a
  spot_before setup i a (cell, at, e) = (cell, cell_before cells cells' h i cell at (λ q. let none : None ≡ Some a = sym (ap (spot setup i) q) ∙ e in let no_such : ⊥ = cc in no_such), e)

  spot_after : (setup : Setup) (i : ℕ) (a : Spot) → IsSpot setup cells i a → IsSpot setup cells' i a
  spot_after setup i a (cell, at, e) = (cell, cell_after cells cells' h i cell at (λ generation m n body q. let none : None ≡ Some a = sym (ap (spot setup i) q) ∙ e in let no_such : ⊥ = cc in no_such), e)

  -- the lists stay sorted
  pub hiding_fits : (flags : ℕ → Type 0) (setup : Setup) (x : ShapeInput) → x.cells ≡ cells → ListFits flags setup x → ListFits flags setup (record x { cells = cells' })
  hiding_fits flags setup x is f = record {
    next = λ i a t s e. let y = f.next i a t (in_x i a s) e in (y.0, y.1, spot_after setup (t.index - 1) y.0 (subst (λ (l : List ShapeCell). IsSpot setup l (t.index - 1) y.0) is y.2), y.3, y.4, y.5);
    one = λ i j a b s t. f.one i j a b (in_x i a s) (in_x j b t);
    gap = λ i j a b s t same lt. let y = f.gap i j a b (in_x i a s) (in_x j b t) same lt in (y.0, y.1, y.2, spot_after setup (y.0.index - 1) y.1 (subst (λ (l : List ShapeCell). IsSpot setup l (y.0.index - 1) y.1) is y.3), y.4);
    later = λ i generation m n body t at e. ⊎_elim (λ y. inl (leads_after cells cells' h t (subst (λ (l : List ShapeCell). LeadsTo l t) is y))) inr
        (f.later i generation m n body t (subst (λ (l : List ShapeCell). At l i (out generation body m n)) (sym is) (cell_before cells cells' h i (out generation body m n) at (λ q. let none : ⊥ = cc in none))) e);
    sorted = λ i cell at. sorted_by cell (λ seen. f.sorted i cell (subst (λ (l : List ShapeCell). At l i cell) (sym is) (cell_before cells cells' h i cell at seen)));
  }
    where
      in_x : (i : ℕ) (a : Spot) → IsSpot setup cells' i a → IsSpot setup x.cells i a
      in_x i a s = subst (λ (l : List ShapeCell). IsSpot setup l i a) (sym is) (spot_before setup i a s)

      sorted_by : (cell : ShapeCell) → ((cell ≡ hidden → ⊥) → IsSorted flags cell) → IsSorted flags cell
      sorted_by hidden g = tt
      sorted_by (root e b m) g = g (λ q. let none : ⊥ = cc in none)
      sorted_by (linked e b m) g = g (λ q. let none : ⊥ = cc in none)
      sorted_by (out e b m n) g = g (λ q. let none : ⊥ = cc in none)

  pub marked_before : (i m start : ℕ) (body : List ℕ) → IsMarked cells' i body m start → IsMarked cells i body m start
  marked_before i m start body (still generation at mark) = still generation (cell_before cells cells' h i (linked generation body m) at (λ q. let none : ⊥ = cc in none)) mark
  marked_before i m start body (gone generation n at late) = gone generation n (cell_before cells cells' h i (out generation body m n) at (λ q. let none : ⊥ = cc in none)) late

  same_present : (k : ℕ) → (IsPresent cells k → IsPresent cells' k) × (IsPresent cells' k → IsPresent cells k)
  same_present k = (
    (λ (i, generation, m, body, at, ok, is). (i, generation, m, body, cell_after cells cells' h i (linked generation body m) at (λ e q n b z. let none : ⊥ = cc in none), ok, is)),
    (λ (i, generation, m, body, at, ok, is). (i, generation, m, body, cell_before cells cells' h i (linked generation body m) at (λ q. let none : ⊥ = cc in none), ok, is)),
  )

-- as many are marked
count_same : (cells cells' : List ShapeCell) → HiddenCells cells cells' → count_by is_marked_cell cells' ≡ count_by is_marked_cell cells
count_same [] [] h = refl
count_same [] (y ∷ ys) h = let m = h.many in absurd (omega arith)
count_same (x ∷ xs) [] h = let m = h.many in absurd (omega arith)
count_same (x ∷ xs) (y ∷ ys) h = let rest = count_same xs ys record { many = (let m = h.many in omega arith); each = λ i new at. h.each (suc i) new at } in let here = h.each 0 y refl in
    let same : cond (is_marked_cell y) 1 0 ≡ cond (is_marked_cell x) 1 0 = ap (λ b. cond b 1 0) (same_test x y (subst (λ (z : ShapeCell). IsHidden z y) (sym (some-injective x here.0 here.1)) here.2)) in
    let a = sum_by-cons (λ z. cond (is_marked_cell z) 1 0) y ys in let b = sum_by-cons (λ z. cond (is_marked_cell z) 1 0) x xs in a ∙ (λ k. same k + rest k) ∙ sym b
  where
    same_test : (old new : ShapeCell) → IsHidden old new → is_marked_cell new ≡ is_marked_cell old
    same_test old _ (hides_ generation m n body is) = sym (ap is_marked_cell is)
    same_test old _ keeps_ = refl

-- and what ties them to their history stays
pub hiding_told : (x : ShapeInput) (h : Trace) (cells : List ShapeCell) → HiddenCells x.cells cells → ListTold x h → ListTold (record x { cells = cells }) h
hiding_told x h cells hid told = record {
  keys = λ k. let a = told.keys k in let b = same_present x.cells cells hid k in ((λ z. b.0 (a.0 z)), (λ z. a.1 (b.1 z)));
  marks = λ i m body is. told.marks i m body (marked_before x.cells cells hid i m 0 body is);
  alone = λ i j m body other is also. told.alone i j m body other (marked_before x.cells cells hid i m 0 body is) (marked_before x.cells cells hid j m 0 other also);
  balance = told.balance ∙ ap (λ (z : ℕ). length x.taken_out + z) (sym (count_same x.cells cells hid));
}
