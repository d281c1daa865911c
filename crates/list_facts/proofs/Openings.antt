-- A new table has blank roots: its lists are sorted, and tied to an empty history.
use Rattle.std.proofs.Common.{◌≡◌, ℕ, ◌+◌, ◌-◌, ◌*◌, ◌/◌, ◌%◌, ◌^◌, List, [], replicate, false, cond, ◌⊎◌, inl, inr, ⊎_elim, Some, None, sym, refl, ap, ◌∙◌, subst, arith}
use Rattle.std.proofs.lemmas.Bool.{both_ways}
use Rattle.std.proofs.lemmas.List.Sums.{sum_by-append}
use Rattle.std.proofs.lemmas.List.Folds.{sum_by-replicate}
use Rattle.set_model.specs.declared.calls.Update.{Update}
use Rattle.set_model.specs.Keys.{contains}
use Rattle.set_model.specs.Histories.{keys_of, removals_in}
use Rattle.set_model.proofs.KeySets.{contains-empty}
use Rattle.record_memory.specs.declared.books.Setup.{Setup}
use Rattle.row_words.specs.Refs.{RefParts, LinkParts}
use Rattle.row_words.specs.Packing.{packed_number, link_in, ref_in}
use Rattle.record_rule.specs.Inputs.{ShapeCell, hidden, root, linked, out, Trace}
use Rattle.record_rule.specs.Facts.{At, link_at}
use Rattle.record_rule.specs.Laws.{root_body, opening_shape}
use Rattle.record_rule.proofs.Lists.{at_runs}
use Rattle.list_facts.specs.Lists.{Spot, spot, IsSpot, IsSorted, ListFits}
use Rattle.list_facts.specs.Tellings.{IsMarked, is_marked_cell, still, gone, ListTold}
use Rattle.list_facts.proofs.Bodies.{clear_flags}
use Rattle.list_facts.proofs.Cells.{spot_is}

-- the link of a blank root
pub blank_link : (first : ℕ) → link_at (root_body first) 3 ≡ record { flags = 0; target = None }
unfolding packed_number link_in ref_in
blank_link first =
    let low : (first * 2 ^ 44 + 0) % 2 ^ 40 ≡ 0 = omega arith in
    let high : (first * 2 ^ 44 + 0) / 2 ^ 40 % 2 ^ 4 ≡ 0 = omega arith in
    rw (low, high) refl

-- what a cell counts among the marked ones
abbrev counted : ShapeCell → ℕ
counted c = cond (is_marked_cell c) 1 0

module _ (setup : Setup) where
  -- a blank root
  abbrev blank : ShapeCell
  blank = root setup.first (root_body setup.first) 0

  -- a cell of a new table is a blank root or hidden
  pub opens : (i : ℕ) (c : ShapeCell) → At (opening_shape setup).cells i c → (c ≡ blank) ⊎ (c ≡ hidden)
  opens i c at = ⊎_elim (λ p. inl (sym p.1)) (λ p. inr (sym p.1)) (at_runs setup.roots (setup.records - setup.roots) i blank hidden c at)

  -- so what stands in it is a root without a target
  blank_spot : (i : ℕ) (a : Spot) → IsSpot setup (opening_shape setup).cells i a → record { home = i; rank = 0; generation = setup.first; body = root_body setup.first } ≡ a
  blank_spot i a (c, at, e) = ⊎_elim (λ is. spot_is _ a (ap (spot setup i) (sym is) ∙ e)) (λ is. let none : ⊥ = (let z : None ≡ Some a = ap (spot setup i) (sym is) ∙ e in cc) in absurd none) (opens i c at)

  -- and its link has no target
  no_target : (i : ℕ) (a : Spot) (t : RefParts) → IsSpot setup (opening_shape setup).cells i a → (link_at a.body 3).target ≡ Some t → ⊥
  no_target i a t at e = let z : None ≡ Some t = ap (λ (l : LinkParts). l.target) (sym (blank_link setup.first)) ∙ ap (λ (b : Spot). (link_at b.body 3).target) (blank_spot i a at) ∙ e in cc

  -- no record is linked
  no_linked : (i generation m : ℕ) (body : List ℕ) → At (opening_shape setup).cells i (linked generation body m) → ⊥
  no_linked i generation m body at = ⊎_elim (λ is. cc) (λ is. cc) (opens i (linked generation body m) at)

  -- nor taken out
  no_out : (i generation m n : ℕ) (body : List ℕ) → At (opening_shape setup).cells i (out generation body m n) → ⊥
  no_out i generation m n body at = ⊎_elim (λ is. cc) (λ is. cc) (opens i (out generation body m n) at)

  -- so none is marked
  no_mark : (i m : ℕ) (body : List ℕ) → IsMarked (opening_shape setup).cells i body m 0 → ⊥
  no_mark i m body (still generation at mark) = no_linked i generation m body at
  no_mark i m body (gone generation n at late) = no_out i generation m n body at

  module _ (flags : ℕ → Type 0) (may : flags 0) where
    -- a blank root is as it should be
    blank_sorted : IsSorted flags blank
    blank_sorted = rw (blank_link setup.first) (may, clear_flags (record { flags = 0; target = None }) 0 refl refl)

    -- the lists of a new table are sorted
    pub opening_fits : ListFits flags setup (opening_shape setup)
    opening_fits = record {
      next = λ i a t at e. absurd (no_target i a t at e);
      one = λ i j a b s t home rank. ap (λ (c : Spot). c.home) (blank_spot i a s) ∙ home ∙ sym (ap (λ (c : Spot). c.home) (blank_spot j b t));
      gap = λ i j a b s t home up. let none : b.rank ≡ 0 = sym (ap (λ (c : Spot). c.rank) (blank_spot j b t)) in absurd (omega arith);
      later = λ i generation m n body t at e. absurd (no_out i generation m n body at);
      sorted = λ i cell at. ⊎_elim (λ is. subst (IsSorted flags) (sym is) blank_sorted) (λ is. subst (IsSorted flags) (sym is) tt) (opens i cell at);
    }

  module _ (h : Trace) (nothing : h.updates ≡ []) where
    -- nor has the set a key
    no_setup : (k : ℕ) → contains (keys_of h.updates) k ≡ false
    no_setup k = ap (λ (u : List Update). contains (keys_of u) k) nothing ∙ contains-empty k

    -- and tied to an empty history
    pub opening_told : ListTold (opening_shape setup) h
    opening_told = record {
      keys = λ k. (λ has. absurd (both_ways (contains (keys_of h.updates) k) (no_setup k) has), λ p. absurd (no_linked p.0 p.1 p.2 p.3 p.4));
      marks = λ i m body p. absurd (no_mark i m body p);
      alone = λ i j m body other p q. absurd (no_mark i m body p);
      balance =
          let none : removals_in h.updates ≡ 0 = ap (λ (u : List Update). removals_in u) nothing in
          omega (arith, none, sum_by-append counted (replicate setup.roots blank) (replicate (setup.records - setup.roots) hidden), sum_by-replicate counted setup.roots blank, sum_by-replicate counted (setup.records - setup.roots) hidden);
    }
