-- Two ways to add the same numbers: along a list, and by the rows of a grid where each entry of the list has a cell of its own.
use Rattle.std.proofs.Common.{◌≡◌, ◌≢◌, ℕ, zero, suc, ◌+◌, ◌<◌, List, [], ◌∷◌, length, length-set, get_or, set, sum, sum_by, ⊎_elim, sym, refl, ap, ◌∙◌, subst, arith, get_or-set_same, get_or-set_other}
use Rattle.std.proofs.lemmas.List.Sums.{sum_by-set, sum_by-cons}
use Rattle.std.proofs.lemmas.Bool.{cases_eq}
use mathlib.Core.Option.{some-injective}
use Rattle.record_rule.specs.Facts.{At}
use Rattle.record_rule.proofs.Lists.{got_set}

-- the number in this row, at this place
abbrev pub cell : List (List ℕ) → ℕ → ℕ → ℕ
cell grid c n = get_or (get_or grid c []) n 0

-- the grid with nothing there
abbrev cleared : List (List ℕ) → ℕ → ℕ → List (List ℕ)
cleared grid c n = set grid c (set (get_or grid c []) n 0)

abbrev pub IsWithin : List (List ℕ) → ℕ → ℕ → Type 0
IsWithin grid c n = (c < length grid) × (n < length (get_or grid c []))

-- a row of nothing, and a grid
row_of_none : (row : List ℕ) → ((n : ℕ) → get_or row n 0 ≡ 0) → sum row ≡ 0
row_of_none [] none = refl
row_of_none (x ∷ row) none = omega (arith, none 0, row_of_none row (λ n. none (suc n)), sum_by-cons (λ (y : ℕ). y) x row)

grid_of_none : (grid : List (List ℕ)) → ((c n : ℕ) → cell grid c n ≡ 0) → sum_by sum grid ≡ 0
grid_of_none [] none = refl
grid_of_none (row ∷ grid) none = omega (arith, row_of_none row (none 0), grid_of_none grid (λ c n. none (suc c) n), sum_by-cons sum row grid)

module _ (grid : List (List ℕ)) (c n : ℕ) (within : IsWithin grid c n) where
  cleared_sum : sum_by sum (cleared grid c n) + cell grid c n ≡ sum_by sum grid
  cleared_sum =
      let rows = sum_by-set sum grid c (set (get_or grid c []) n 0) [] within.0 in
      let row = sum_by-set (λ (y : ℕ). y) (get_or grid c []) n 0 0 within.1 in
      omega (arith, rows, row)

  cleared_here : cell (cleared grid c n) c n ≡ 0
  cleared_here = ap (λ (l : List ℕ). get_or l n 0) (get_or-set_same grid c (set (get_or grid c []) n 0) [] within.0) ∙ get_or-set_same (get_or grid c []) n 0 0 within.1

  cleared_else : (d m : ℕ) → (d ≡ c → m ≡ n → ⊥) → cell (cleared grid c n) d m ≡ cell grid d m
  cleared_else d m else = ⊎_elim
      (λ e. ap (λ (k : ℕ). cell (cleared grid c n) k m) e ∙ ap (λ (l : List ℕ). get_or l m 0) (get_or-set_same grid c (set (get_or grid c []) n 0) [] within.0)
      ∙ get_or-set_other (get_or grid c []) n m 0 0 (λ same. else e same) ∙ ap (λ (k : ℕ). cell grid k m) (sym e))
      (λ ne. ap (λ (l : List ℕ). get_or l m 0) (get_or-set_other grid c d (set (get_or grid c []) n 0) [] ne))
      (cases_eq d c)

  still_within : (d m : ℕ) → IsWithin grid d m → IsWithin (cleared grid c n) d m
  still_within d m (low, short) = (
    subst (λ (k : ℕ). d < k) (sym (length-set grid c (set (get_or grid c []) n 0))) low,
    got_set (λ (l : List ℕ). m < length l) grid c d (set (get_or grid c []) n 0) [] within.0
        (λ e. subst (λ (k : ℕ). m < k) (ap (λ (k : ℕ). length (get_or grid k [])) e ∙ sym (length-set (get_or grid c []) n 0)) short) (λ ne. short),
  )

module _ {A : Type 0} (f row place : A → ℕ) where
  -- each entry has a cell of its own with its number, and there is nothing in other cells
  pub record AreCells (entries : List A) (grid : List (List ℕ)) : Type 0 where
    pub within : (i : ℕ) (a : A) → At entries i a → IsWithin grid (row a) (place a)
    pub here : (i : ℕ) (a : A) → At entries i a → cell grid (row a) (place a) ≡ f a
    pub apart : (i j : ℕ) (a b : A) → At entries i a → At entries j b → row a ≡ row b → place a ≡ place b → i ≡ j
    pub all : (c n : ℕ) → cell grid c n ≢ 0 → (i : ℕ) × (a : A) × At entries i a × (row a ≡ c) × (place a ≡ n)

  pub added_by_rows : (entries : List A) (grid : List (List ℕ)) → AreCells entries grid → sum_by f entries ≡ sum_by sum grid
  added_by_rows [] grid is = sym (grid_of_none grid (λ c n. ⊎_elim (λ e. e) (λ ne. let x = is.all c n ne in let none : ⊥ = (let y = x.2 in cc) in absurd none) (cases_eq (cell grid c n) 0)))
  added_by_rows (a ∷ entries) grid is =
      let c = row a in
      let n = place a in
      let within = is.within 0 a refl in
      let other : (j : ℕ) (b : A) → At entries j b → row b ≡ c → place b ≡ n → ⊥ = λ j b at same place_same. (let z = is.apart 0 (suc j) a b refl at (sym same) (sym place_same) in omega arith) in
      let rest : AreCells entries (cleared grid c n) = record {
        within = λ i b at. still_within grid c n within (row b) (place b) (is.within (suc i) b at);
        here = λ i b at. cleared_else grid c n within (row b) (place b) (other i b at) ∙ is.here (suc i) b at;
        apart = λ i j b d at too same place_same. (let z = is.apart (suc i) (suc j) b d at too same place_same in omega arith);
        all = λ d m some. in_rest d m some (is.all d m (λ e. some (cleared_else grid c n within d m (λ x y. some (ap (λ (k : ℕ). cell (cleared grid c n) k m) x ∙ ap (cell (cleared grid c n) c) y ∙ cleared_here grid c n within)) ∙ e)));
      } in
      omega (arith, sum_by-cons f a entries, added_by_rows entries (cleared grid c n) rest, cleared_sum grid c n within, is.here 0 a refl)
    where
      in_rest : (d m : ℕ) → cell (cleared grid (row a) (place a)) d m ≢ 0 → ((i : ℕ) × (b : A) × At (a ∷ entries) i b × (row b ≡ d) × (place b ≡ m)) → (i : ℕ) × (b : A) × At entries i b × (row b ≡ d) × (place b ≡ m)
      in_rest d m some (suc i, b, at, same, place_same) = (i, b, at, same, place_same)
      in_rest d m some (zero, b, at, same, place_same) =
          let is_a : a ≡ b = some-injective a b at in
          absurd (some (
          ap (λ (k : ℕ). cell (cleared grid (row a) (place a)) k m) (sym same ∙ ap row (sym is_a)) ∙ ap (cell (cleared grid (row a) (place a)) (row a)) (sym place_same ∙ ap place (sym is_a))
          ∙ cleared_here grid (row a) (place a) (is.within 0 a refl)))
