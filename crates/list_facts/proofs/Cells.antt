-- The spots of cells, after one cell was set, and what links lead to then.
use Rattle.std.proofs.Common.{◌≡◌, ◌≢◌, ℕ, ◌+◌, ◌-◌, ◌%◌, ◌<◌, List, length, set, ◌⊎◌, inl, inr, ⊎_elim, Some, None, sym, refl, ap, ◌∙◌, subst, arith}
use Rattle.atomic_table.proofs.Lists.{at_set, set_here, set_else}
use Rattle.record_memory.specs.declared.books.Setup.{Setup}
use Rattle.row_words.specs.Refs.{RefParts}
use Rattle.record_rule.specs.Inputs.{ShapeCell, hidden, root, linked, out, ShapeInput}
use Rattle.record_rule.specs.Facts.{At, key_at}
use Rattle.record_rule.specs.Laws.{LeadsTo}
use Rattle.record_rule.proofs.Lists.{one_at}
use Rattle.list_facts.specs.Lists.{Spot, spot, IsSpot, LeadsUp, ListFits}
use Rattle.list_facts.proofs.Spots.{Ordered}

-- equal spots, without the option
pub spot_is : (a b : Spot) → Some a ≡ Some b → a ≡ b
spot_is a b e = cc

-- where a linked record stands
abbrev pub linked_spot : Setup → ℕ → List ℕ → Spot
linked_spot setup generation body = record { home = key_at body % setup.roots; rank = key_at body + 1; generation = generation; body = body }

module _ (setup : Setup) (cells : List ShapeCell) where
  -- one spot at an index
  pub one_spot : (i : ℕ) (a b : Spot) → IsSpot setup cells i a → IsSpot setup cells i b → a ≡ b
  one_spot i a b (c, at, e) (d, there, f) = spot_is a b (sym e ∙ ap (spot setup i) (one_at cells i c d at there) ∙ f)

  -- none at a hidden cell or at a record that was taken out
  pub no_spot : (i : ℕ) (cell : ShapeCell) (a : Spot) → At cells i cell → spot setup i cell ≡ None → IsSpot setup cells i a → ⊥
  no_spot i cell a at none (c, there, e) = let z : Some a ≡ None = sym e ∙ ap (spot setup i) (one_at cells i c cell there at) ∙ none in cc

  -- a linked record has one rank
  pub rank_linked : (i generation m : ℕ) (body : List ℕ) (a : Spot) → At cells i (linked generation body m) → IsSpot setup cells i a → a.rank ≡ key_at body + 1
  rank_linked i generation m body a at stands = ap (λ (b : Spot). b.rank) (one_spot i a (linked_spot setup generation body) stands (linked generation body m, at, refl))

  module _ (p : ℕ) (cell : ShapeCell) where
    -- what stands in the cells after one was set is that one's, or stood there before
    pub spot_set : (i : ℕ) (a : Spot) → IsSpot setup (set cells p cell) i a → ((i ≡ p) × (spot setup p cell ≡ Some a)) ⊎ ((i ≢ p) × IsSpot setup cells i a)
    spot_set i a (c, at, e) = ⊎_elim (λ t. inl (t.0, ap (spot setup p) t.1 ∙ ap (λ (k : ℕ). spot setup k c) (sym t.0) ∙ e)) (λ t. inr (t.0, (c, t.1, e))) (at_set cells p i cell c at)

    -- the one that was set stands where its cell does
    pub spot_here : (a : Spot) → p < length cells → spot setup p cell ≡ Some a → IsSpot setup (set cells p cell) p a
    spot_here a h e = (cell, set_here cells p cell h, e)

    -- the others still stand
    pub spot_else : (i : ℕ) (a : Spot) → i ≢ p → IsSpot setup cells i a → IsSpot setup (set cells p cell) i a
    spot_else i a ne (c, at, e) = (c, set_else cells p i cell ne ∙ at, e)

    -- a record that was taken out is another one than a cell that stands somewhere
    pub out_else : (a : Spot) → spot setup p cell ≡ Some a → (i generation m n : ℕ) (body : List ℕ) → At (set cells p cell) i (out generation body m n) → (i ≢ p) × At cells i (out generation body m n)
    out_else a e i generation m n body at =
        ⊎_elim (λ t. let z : Some a ≡ None = sym e ∙ ap (spot setup p) t.1 in let none : ⊥ = cc in absurd none) (λ t. t) (at_set cells p i cell (out generation body m n) at)

-- the lists of a table, by what stands at each index
pub ordered : {flags : ℕ → Type 0} {setup : Setup} {x : ShapeInput} → ListFits flags setup x → Ordered (IsSpot setup x.cells)
ordered {setup = setup} {x = x} fits = record { single = one_spot setup x.cells; next = fits.next; one = fits.one; gap = fits.gap }

-- a linked record is linked still when another cell was set
pub leads_else : (cells : List ShapeCell) (p : ℕ) (cell : ShapeCell) (t : RefParts) → t.index - 1 ≢ p → LeadsTo cells t → LeadsTo (set cells p cell) t
leads_else cells p cell t ne (body, m, named, at) = (body, m, named, set_else cells p (t.index - 1) cell ne ∙ at)

-- a spot with a rank is a linked record's
spot_ranked : (setup : Setup) (i : ℕ) (cell : ShapeCell) (a : Spot) → spot setup i cell ≡ Some a → 0 < a.rank → (body : List ℕ) × (m : ℕ) × (cell ≡ linked a.generation body m)
spot_ranked setup i hidden a e h = let none : ⊥ = cc in absurd none
spot_ranked setup i (root generation body m) a e h = let z : 0 ≡ a.rank = ap (λ (b : Spot). b.rank) (spot_is _ a e) in absurd (omega arith)
spot_ranked setup i (linked generation body m) a e h = (body, m, ap (λ (b : Spot). linked b.generation body m) (spot_is _ a e))
spot_ranked setup i (out generation body m n) a e h = let none : ⊥ = cc in absurd none

-- what a link leads up to is a linked record
pub leads_linked : (setup : Setup) (cells : List ShapeCell) (a : Spot) (t : RefParts) → LeadsUp setup cells a t → LeadsTo cells t
leads_linked setup cells a t (b, named, (cell, at, e), generation, home, up) = let (body, m, is) = spot_ranked setup (t.index - 1) cell b e (omega arith) in
    (body, m, named, subst (λ (g : ℕ). At cells (t.index - 1) (linked g body m)) generation (subst (At cells (t.index - 1)) is at))
