-- The records on the shelves of a closed table are those of which the words of its shelves tell.
use Rattle.std.proofs.Common.{◌≡◌, ℕ, zero, suc, ◌+◌, ◌<◌, ◌≤◌, ◌⊎◌, inl, inr, List, [], ◌∷◌, map, get_or, take, Bool, true, false, cond, eqb, ltb, Option, refl, sym, ap, ◌∙◌, arith}
use Rattle.std.specs.List.{count_by, sum_by}
use Rattle.std.proofs.lemmas.Bool.{lt-ltb, le-ltb, eq-eqb, ne_eqb}
use Rattle.std.proofs.lemmas.Bool.Decides.{leb_tells}
use Rattle.std.proofs.lemmas.List.{take_all}
use Rattle.std.proofs.lemmas.List.Sums.{sum_by_more}
use native.Mathlib.Decide.{ℕ_discrete}
use mathlib.Core.Option.{some}
use Rattle.record_memory.specs.declared.books.Book.{Book}
use Rattle.record_memory.specs.declared.books.Place.{Place}
use Rattle.record_memory.specs.declared.books.Place.TheVariants.{Undrawn, Root, Linked, Shelved, Of}
use Rattle.record_memory.specs.Memory.{memory}
use Rattle.row_words.specs.Refs.{RefParts}
use Rattle.row_words.specs.Packing.{ref_in}
use Rattle.record_rule.specs.Facts.{At}
use Rattle.record_rule.specs.PlaceCounts.{count_in}
use Rattle.record_rule.specs.Records.{Record}
use Rattle.record_rule.specs.Shelves.{PoolCell, off, on, pool_at, pool_cell, IsBare, ShelfFits, ShelvesFit}
use Rattle.record_rule.specs.Standings.{is_shelved}
use Rattle.record_rule.specs.World.{Places}
use Rattle.record_rule.proofs.CountingPlaces.{bit, count_cons, in_cons, first_ones}
use Rattle.record_rule.proofs.ShelfCells.{is_on_cell, bare_shelf, full_shelf, chain_count}
use Rattle.record_table.specs.Closing.{closed_setup, closed_words}
use Rattle.record_table.specs.declared.closing.Closed.{Closed}
use Rattle.set_runs.specs.Totals.{chain_in, on_shelves, shelf_words}

-- whether a record is on one of the first n shelves
abbrev is_before : ℕ → PoolCell → Bool
is_before n off = false
is_before n (on k generation next) = ltb k n

-- one shelf more
more_bit : (k n : ℕ) → bit (ltb k (suc n)) ≡ bit (ltb k n) + bit (eqb k n)
more_bit k n = by (leb_tells (suc k) n) (leb_tells (suc n) k)
  where
    by : ((ltb k n ≡ true) × (k < n)) ⊎ ((ltb k n ≡ false) × (n < suc k)) → ((ltb n k ≡ true) × (n < k)) ⊎ ((ltb n k ≡ false) × (k < suc n)) → bit (ltb k (suc n)) ≡ bit (ltb k n) + bit (eqb k n)
    by (inl l) g = let low = l.1 in let a : bit (ltb k n) ≡ 1 = ap bit l.0 in let b : bit (eqb k n) ≡ 0 = ap bit (ne_eqb k n (λ e. omega arith)) in let c : bit (ltb k (suc n)) ≡ 1 = ap bit (lt-ltb k (suc n) (omega arith)) in omega arith
    by (inr l) (inl g) = let high = g.1 in let a : bit (ltb k n) ≡ 0 = ap bit l.0 in let b : bit (eqb k n) ≡ 0 = ap bit (ne_eqb k n (λ e. omega arith)) in let c : bit (ltb k (suc n)) ≡ 0 = ap bit (le-ltb k (suc n) (omega arith)) in omega arith
    by (inr l) (inr g) = let low = l.1 in let high = g.1 in let a : bit (ltb k n) ≡ 0 = ap bit l.0 in let b : bit (eqb k n) ≡ 1 = ap bit (eq-eqb k n (omega arith)) in let c : bit (ltb k (suc n)) ≡ 1 = ap bit (lt-ltb k (suc n) (omega arith)) in omega arith

cell_more : (n : ℕ) (x : PoolCell) → bit (is_before (suc n) x) ≡ bit (is_before n x) + bit (is_on_cell n x)
cell_more n off = refl
cell_more n (on k generation next) = more_bit k n

count_more : (n : ℕ) (cells : List PoolCell) → count_by (is_before (suc n)) cells ≡ count_by (is_before n) cells + count_by (is_on_cell n) cells
count_more n [] = refl
count_more n (x ∷ xs) = omega (arith, count_more n xs, cell_more n x, count_cons (is_before (suc n)) x xs, count_cons (is_before n) x xs, count_cons (is_on_cell n) x xs)

-- where no entry counts
count_none : {A : Type 0} (p : A → Bool) (l : List A) → ((i : ℕ) (a : A) → At l i a → p a ≡ false) → count_by p l ≡ 0
count_none p l none = first_ones p l 0 (omega arith) (λ i a at less. absurd (omega (arith, less))) (λ i a at more. none i a at)

before_none : (a : PoolCell) → is_before 0 a ≡ false
before_none off = refl
before_none (on k generation next) = le-ltb k 0 (omega arith)

bare_cell : (cells : List PoolCell) (k : ℕ) → IsBare cells k → (i : ℕ) (a : PoolCell) → At cells i a → is_on_cell k a ≡ false
bare_cell cells k bare i off at = refl
bare_cell cells k bare i (on j generation next) at = ne_eqb j k (λ e. bare i generation next (at ∙ ap (λ (z : ℕ). some (on z generation next)) e))

-- a shelf has as many records as its word tells
shelf_count : (cells : List PoolCell) (k value : ℕ) → ShelfFits cells k value → chain_in value ≡ count_by (is_on_cell k) cells
shelf_count cells k value f = by (ℕ_discrete value 0)
  where
    by : Dec (value ≡ 0) → chain_in value ≡ count_by (is_on_cell k) cells
    by (yes e) = ap chain_in e ∙ sym (count_none (is_on_cell k) cells (bare_cell cells k (bare_shelf cells k value f e)))
    by (no ne) = ap (λ (b : Bool). cond b 0 32) (ne_eqb value 0 ne) ∙ sym (chain_count k cells (ref_in value) (full_shelf cells k value f ne))

-- so the first n shelves have
shelves_count : (cells : List PoolCell) (shelves : List ℕ) → ShelvesFit cells shelves → (n : ℕ) → n ≤ 16 → sum_by chain_in (take n shelves) ≡ count_by (is_before n) cells
shelves_count cells shelves f zero le = sym (count_none (is_before 0) cells (λ i a at. before_none a))
shelves_count cells shelves f (suc n) le =
    ap (λ (m : ℕ). sum_by chain_in (take m shelves)) (let e : suc n ≡ n + 1 = omega arith in e)
    ∙ sum_by_more chain_in shelves n 0 (omega (arith, le, f.many))
    ∙ omega (arith, shelves_count cells shelves f n (omega (arith, le)), shelf_count cells n (get_or shelves n 0) (f.each n (omega (arith, le))), count_more n cells)

-- and no record is on another one
before_place : (p : Place) (r : Record) → ((k generation : ℕ) (next : Option RefParts) → pool_at p r ≡ on k generation next → k < 16) → is_before 16 (pool_at p r) ≡ is_shelved p
before_place Undrawn r few = refl
before_place Root r few = refl
before_place Linked r few = refl
before_place (Shelved k) r few = lt-ltb k 16 (few k _ _ refl)
before_place (Of c s) r few = refl

before_all : (l : List Record) → ((i k generation : ℕ) (next : Option RefParts) → At (map pool_cell l) i (on k generation next) → k < 16) → count_by (is_before 16) (map pool_cell l) ≡ count_in is_shelved l
before_all [] few = refl
before_all (r ∷ rs) few =
    omega (
      arith,
      before_all rs (λ i k generation next at. few (suc i) k generation next at),
      ap bit (before_place r.place r (λ k generation next is. few 0 k generation next (ap some is))),
      count_cons (is_before 16) (pool_cell r) (map pool_cell rs),
      in_cons is_shelved r rs,
    )

pub on_shelves_are : (closed : Closed) (records : List Record) (books : List Book) → Places (closed_setup closed) records books (memory (closed_setup closed).callers (closed_setup closed).records (closed_words closed))
    → on_shelves closed ≡ count_in is_shelved records
on_shelves_are closed records books p =
    ap (sum_by chain_in) (sym (take_all 16 (shelf_words closed) (omega (arith, p.shelves.many))))
    ∙ shelves_count (map pool_cell records) (shelf_words closed) p.shelves 16 (omega arith)
    ∙ before_all records p.shelves.few
