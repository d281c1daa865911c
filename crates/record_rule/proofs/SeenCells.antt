-- What a set saw of records before some of them were hidden, and what it sees still.
use Rattle.std.proofs.Common.{◌≡◌, ℕ, ◌-◌, List, refl, ap, ◌∙◌, subst, arith}
use mathlib.Core.Option.{some}
use Rattle.row_words.specs.Refs.{RefParts}
use Rattle.record_rule.specs.Inputs.{ShapeCell, hidden, linked, out}
use Rattle.record_rule.specs.Facts.{At}
use Rattle.record_rule.specs.Laws.{LeadsTo, IsHidden, hides_, keeps_, HiddenCells}
use Rattle.record_rule.proofs.Lists.{below_at, at_below, one_at}

module _ (cells cells' : List ShapeCell) (h : HiddenCells cells cells') where
  seen_before : (old new : ShapeCell) → IsHidden old new → (new ≡ hidden → ⊥) → old ≡ new
  seen_before old _ (hides_ generation m n body is) seen = absurd (seen refl)
  seen_before old _ keeps_ seen = refl

  -- what can be seen was there before
  pub cell_before : (i : ℕ) (cell : ShapeCell) → At cells' i cell → (cell ≡ hidden → ⊥) → At cells i cell
  cell_before i cell at seen = let x = h.each i cell at in x.1 ∙ ap some (seen_before x.0 cell x.2 seen)

  kept_after : (old new : ShapeCell) → IsHidden old new → ((generation m n : ℕ) (body : List ℕ) → old ≡ out generation body m n → ⊥) → new ≡ old
  kept_after old _ (hides_ generation m n body is) ok = absurd (ok generation m n body is)
  kept_after old _ keeps_ ok = refl

  -- what wasn't taken out is there still
  pub cell_after : (i : ℕ) (cell : ShapeCell) → At cells i cell → ((generation m n : ℕ) (body : List ℕ) → cell ≡ out generation body m n → ⊥) → At cells' i cell
  cell_after i cell at ok = let y = at_below cells' i (let l = below_at cells i cell at in let m = h.many in omega arith) in let x = h.each i y.0 y.1 in
      y.1 ∙ ap some (kept_after cell y.0 (subst (λ (z : ShapeCell). IsHidden z y.0) (one_at cells i x.0 cell x.1 at) x.2) ok)

  pub leads_after : (t : RefParts) → LeadsTo cells t → LeadsTo cells' t
  leads_after t (body, m, pos, at) = (body, m, pos, cell_after (t.index - 1) (linked t.generation body m) at (λ e k n b q. let none : ⊥ = cc in none))
