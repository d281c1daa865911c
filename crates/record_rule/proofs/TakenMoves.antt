-- The list of the records taken out: it grows by one, and what the laws of a set ask of it.
use Rattle.std.proofs.Common.{◌≡◌, ℕ, ◌+◌, ◌-◌, ◌<◌, ◌≤◌, List, [], ◌∷◌, ◌++◌, map, length, set, sym, refl, ap, ◌∙◌, subst, arith, inl, inr, ⊎_elim}
use native.Mathlib.Decide.{ℕ_discrete}
use mathlib.Core.Option.{some}
use lib.ListN.{get_elem?}
use Rattle.atomic_table.proofs.Lists.{at_set, at_map, at_longer, at_last, set_here, set_else}
use Rattle.record_memory.specs.declared.books.Setup.{Setup}
use Rattle.record_memory.specs.declared.books.Standing.{Standing}
use Rattle.record_memory.specs.declared.books.Standing.TheVariants.{TakenOut, Limbo}
use Rattle.record_memory.specs.declared.books.Place.{Place}
use Rattle.record_memory.specs.declared.books.Place.TheVariants.{Linked, Of}
use Rattle.row_words.specs.Refs.{RefParts, refer}
use Rattle.record_rule.specs.Records.{Record}
use Rattle.record_rule.specs.Inputs.{linked, out, shape_had, shape_at, shape_cell, TakenCell, untaken, was_taken, taken_had, taken_at, taken_cell}
use Rattle.record_rule.specs.Facts.{At, ShapeFacts}
use Rattle.record_rule.specs.Taken.{generation_of, IsTakenAs, TakenFits}
use Rattle.record_rule.specs.Laws.{OutCellsFit, IsNewGeneration}
use Rattle.record_rule.proofs.Lists.{below_at, one_at, map_at}
use Rattle.record_rule.proofs.Seats.{at_end}

-- a record that was taken out, as a set sees it, stands in the list
out_had : (generation m n : ℕ) (body : List ℕ) (s : Standing) (r : Record) → shape_had s r ≡ out generation body m n → taken_had s r ≡ was_taken generation n
out_had generation m n body TakenOut r e = let x : r.generation ≡ generation = cc in let y : r.taken_number ≡ n = cc in λ k. was_taken (x k) (y k)
out_had generation m n body Limbo r e = let x : r.generation ≡ generation = cc in let y : r.taken_number ≡ n = cc in λ k. was_taken (x k) (y k)
out_had generation m n body s r e = let none : ⊥ = cc in absurd none

-- the same, wherever the record is
out_at : (generation m n : ℕ) (body : List ℕ) (p : Place) (r : Record) → shape_at p r ≡ out generation body m n → taken_at p r ≡ was_taken generation n
out_at generation m n body (Of c s) r e = out_had generation m n body s r e
out_at generation m n body p r e = let none : ⊥ = cc in absurd none

-- a linked record, as a set sees it, wasn't taken out at its generation
linked_had : (generation m : ℕ) (body : List ℕ) (s : Standing) (r : Record) → shape_had s r ≡ linked generation body m → ⊥
linked_had generation m body TakenOut r e = cc
linked_had generation m body Limbo r e = cc
linked_had generation m body s r e = cc

linked_at : (generation m : ℕ) (body : List ℕ) (p : Place) (r : Record) → shape_at p r ≡ linked generation body m → taken_at p r ≡ untaken generation
linked_at generation m body Linked r e = let x : r.generation ≡ generation = cc in ap untaken x
linked_at generation m body (Of c s) r e = absurd (linked_had generation m body s r e)
linked_at generation m body p r e = let none : ⊥ = cc in absurd none

module _ (setup : Setup) where
  -- each reference in the list of a record that wasn't taken out at its generation is of an older one
  older_taken : (takings : List TakenCell) (taken_out : List RefParts) (own : RefParts) → TakenFits setup takings taken_out → At takings (own.index - 1) (untaken own.generation) → (k : ℕ) (r : RefParts) → At taken_out k r → r.index ≡ own.index → r.generation < own.generation
  older_taken takings taken_out own fits at k r in_list same = let x = fits.each k r in_list in
      let here : At takings (own.index - 1) x.2 = ap (λ (i : ℕ). get_elem? takings (i - 1)) (sym same) ∙ x.3 in
      subst (λ (c : TakenCell). IsTakenAs c r.generation k) (one_at takings (own.index - 1) x.2 (untaken own.generation) here at) x.4

  -- so at that generation it is new to the list
  pub new_generation : (s : ShapeFacts) (takings : List TakenCell) (taken_out : List RefParts) (own : RefParts) → TakenFits setup takings taken_out → At takings (own.index - 1) (untaken own.generation) → IsNewGeneration s taken_out own
  new_generation s takings taken_out own fits at = older_taken takings taken_out own fits at

  -- what was taken out stands in the list at its number, and once
  pub out_cells_fit : (s : ShapeFacts) (records : List Record) (taken_out : List RefParts) → TakenFits setup (map taken_cell records) taken_out
      → OutCellsFit s (record { cells = map shape_cell records; taken_out = taken_out })
  out_cells_fit s records taken_out fits = record {
    numbered = λ i generation m n body at. let x = map_at shape_cell records i (out generation body m n) at in fits.own i generation n (at_map taken_cell records i x.0 x.1 ∙ ap some (out_at generation m n body x.0.place x.0 x.2));
    once = fits.once;
    indexed = λ n r e. (fits.each n r e).0;
    unlisted = λ i generation m n body at e. let x = map_at shape_cell records i (linked generation body m) at in
        let lt : generation < generation = older_taken (map taken_cell records) taken_out (refer (i + 1) generation) fits
        (subst (λ (k : ℕ). At (map taken_cell records) k (untaken generation)) (let q : i ≡ i + 1 - 1 = omega arith in q) (at_map taken_cell records i x.0 x.1 ∙ ap some (linked_at generation m body x.0.place x.0 x.2))) n (refer (i + 1) generation) e refl in omega arith;
  }

  module _ (takings : List TakenCell) (taken_out : List RefParts) (i generation : ℕ) (fits : TakenFits setup takings taken_out) (at : At takings i (untaken generation)) (late : setup.first ≤ generation) where
    -- the new reference, the cell of its record, and both lists with it
    abbrev gone : RefParts
    gone = refer (i + 1) generation

    abbrev cell : TakenCell
    cell = was_taken generation (length taken_out)

    abbrev takings' : List TakenCell
    takings' = set takings i cell

    abbrev taken_out' : List RefParts
    taken_out' = taken_out ++ gone ∷ []

    -- it wasn't in the list
    unlisted : (n : ℕ) → At taken_out n gone → ⊥
    unlisted n in_list = let lt : generation < generation = older_taken takings taken_out gone fits (subst (λ (k : ℕ). At takings k (untaken generation)) (let e : i ≡ i + 1 - 1 = omega arith in e) at) n gone in_list refl in omega arith

    -- the record has its new cell
    here : At takings' i cell
    here = set_here takings i cell (below_at takings i (untaken generation) at)

    -- a reference that was in the list is still a record's
    old_taken : (n k g : ℕ) (c : TakenCell) → At takings k c → IsTakenAs c g n → Dec (k ≡ i) → (c' : TakenCell) × At takings' k c' × IsTakenAs c' g n
    old_taken n k g c there name (yes e) = (
      cell,
      subst (λ (j : ℕ). At takings' j cell) (sym e) here,
      inl (subst (λ (z : TakenCell). IsTakenAs z g n) (one_at takings k c (untaken generation) there (subst (λ (j : ℕ). At takings j (untaken generation)) (sym e) at)) name),
    )
    old_taken n k g c there name (no ne) = (c, set_else takings i k cell ne ∙ there, name)

    -- each reference is a record's, the new one too
    each_taken : (n : ℕ) (r : RefParts) → At taken_out' n r → (0 < r.index) × (setup.first ≤ r.generation) × (c : TakenCell) × At takings' (r.index - 1) c × IsTakenAs c r.generation n
    each_taken n r in_list = ⊎_elim
        (λ q. let x = fits.each n r q in let y = old_taken n (r.index - 1) r.generation x.2 x.3 x.4 (ℕ_discrete (r.index - 1) i) in (x.0, x.1, y.0, y.1, y.2))
        (λ q. subst (λ (z : RefParts). (0 < z.index) × (setup.first ≤ z.generation) × (c : TakenCell) × At takings' (z.index - 1) c × IsTakenAs c z.generation n) q.1
        (omega arith, late, cell, subst (λ (k : ℕ). At takings' k cell) (let e : i ≡ i + 1 - 1 = omega arith in e) here, inr (refl, q.0)))
        (at_end taken_out gone r n in_list)

    -- a record is taken out, and its reference is put at the end of the list
    pub one_more_taken : TakenFits setup (set takings i (was_taken generation (length taken_out))) (taken_out ++ refer (i + 1) generation ∷ [])
    one_more_taken = record {
      each = each_taken;
      older = λ j g c there le lt. let x : (n : ℕ) × At taken_out n (refer (j + 1) g) = ⊎_elim
          (λ q. fits.older j g (untaken generation) (subst (λ (k : ℕ). At takings k (untaken generation)) (sym q.0) at) le (subst (λ (z : TakenCell). g < generation_of z) (sym q.1) lt))
          (λ q. fits.older j g c q.1 le lt) (at_set takings i j cell c there) in (x.0, at_longer taken_out (gone ∷ []) x.0 (refer (j + 1) g) x.1);
      own = λ j e n there. ⊎_elim
          (λ q. let same : generation ≡ e = (let c = q.1 in cc) in let number : length taken_out ≡ n = (let c = q.1 in cc) in
          subst (λ (z : RefParts). At taken_out' n z) (λ k. refer (sym q.0 k + 1) (same k)) (at_last taken_out gone n number))
          (λ q. at_longer taken_out (gone ∷ []) n (refer (j + 1) e) (fits.own j e n q.1)) (at_set takings i j cell (was_taken e n) there);
      once = λ n m r p q. ⊎_elim
          (λ a. ⊎_elim (λ b. fits.once n m r a b) (λ b. absurd (unlisted n (a ∙ ap some (sym b.1)))) (at_end taken_out gone r m q))
          (λ a. ⊎_elim (λ b. absurd (unlisted m (b ∙ ap some (sym a.1)))) (λ b. a.0 ∙ sym b.0) (at_end taken_out gone r m q)) (at_end taken_out gone r n p);
    }
