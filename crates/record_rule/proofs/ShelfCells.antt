-- Shelves, as their words see the records: all records of one shelf come off it at once, and what was so of the other shelves is.
use Rattle.std.proofs.Common.{◌≡◌, ◌≢◌, ℕ, zero, suc, ◌+◌, ◌-◌, ◌<◌, List, [], ◌∷◌, length, length-set, set, get_or, AllPairs, Bool, true, false, eqb, Option, Some, None, sym, refl, ap, ◌∙◌, subst, arith, ⊎_elim, inl, inr}
use Rattle.std.specs.List.{count_by}
use Rattle.std.proofs.lemmas.Bool.{eqb-true, eq-eqb}
use native.Mathlib.Decide.{ℕ_discrete}
use mathlib.Core.Option.{some, some-injective, some-ne-none}
use Rattle.atomic_table.proofs.Lists.{at_set, set_else}
use Rattle.row_words.specs.Refs.{RefParts}
use Rattle.row_words.specs.Packing.{ref_in}
use Rattle.record_rule.specs.Facts.{At}
use Rattle.record_rule.specs.Shelves.{PoolCell, off, on, ChainOn, IsNamed, HasChain, IsBare, ShelfFits, ShelvesFit}
use Rattle.record_rule.proofs.Lists.{below_at, at_below, one_at, get_at, got_set, counts_less}
use Rattle.record_rule.proofs.CountingPlaces.{bit, count_cons}

-- what a cell is once all records of shelf k came off it
pub data Took (k : ℕ) (old : PoolCell) : PoolCell → Type 0 where
  came_off : (generation : ℕ) (next : Option RefParts) → old ≡ on k generation next → Took k old off
  stayed_on : ((generation : ℕ) (next : Option RefParts) → old ≢ on k generation next) → Took k old old

pub record TookAll (k : ℕ) (cells cells' : List PoolCell) : Type 0 where
  pub many : length cells' ≡ length cells
  pub each : (i : ℕ) (new : PoolCell) → At cells' i new → (old : PoolCell) × At cells i old × Took k old new

took_none : (k : ℕ) (old new : PoolCell) → Took k old new → (generation : ℕ) (next : Option RefParts) → new ≡ on k generation next → ⊥
took_none k old _ (came_off e n is) generation next same = let none : ⊥ = cc in none
took_none k old _ (stayed_on ne) generation next same = ne generation next same

took_same : (k : ℕ) (old new : PoolCell) → Took k old new → new ≢ off → old ≡ new
took_same k old _ (came_off e n is) seen = absurd (seen refl)
took_same k old _ (stayed_on ne) seen = refl

took_kept : (k j : ℕ) (old new : PoolCell) → Took k old new → j ≢ k → (generation : ℕ) (next : Option RefParts) → old ≡ on j generation next → new ≡ old
took_kept k j old _ (came_off e n is) ne generation next same = let z : on j generation next ≡ on k e n = sym same ∙ is in let w : j ≡ k = cc in absurd (ne w)
took_kept k j old _ (stayed_on h) ne generation next same = refl

-- a chain on a shelf that both lists see alike
chain_seen : (cells cells' : List PoolCell) (j : ℕ) → ((i generation : ℕ) (next : Option RefParts) → At cells i (on j generation next) → At cells' i (on j generation next)) → (head : Option RefParts) (refs : List RefParts) → ChainOn cells j head refs → ChainOn cells' j head refs
chain_seen cells cells' j see head [] c = c
chain_seen cells cells' j see head (r ∷ rs) c = (c.0, c.1, c.2, see (r.index - 1) r.generation c.2 c.3, chain_seen cells cells' j see c.2 rs c.4)

shelf_seen : (cells cells' : List PoolCell) (j value : ℕ) → ((i generation : ℕ) (next : Option RefParts) → At cells i (on j generation next) → At cells' i (on j generation next))
    → ((i generation : ℕ) (next : Option RefParts) → At cells' i (on j generation next) → At cells i (on j generation next)) → ShelfFits cells j value → ShelfFits cells' j value
shelf_seen cells cells' j value there back f = ⊎_elim
    (λ x. inl (x.0, λ i g n at. x.1 i g n (back i g n at)))
    (λ x. inr record { refs = x.refs; leads = chain_seen cells cells' j there (ref_in value) x.refs x.leads; many = x.many; distinct = x.distinct; all = λ i g n at. x.all i g n (back i g n at) }) f

-- the word of one shelf
word_set : (shelves : List ℕ) (k j value : ℕ) (P : ℕ → Type 0) → length shelves ≡ 16 → k < 16 → (j ≡ k → P value) → (j ≢ k → P (get_or shelves j 0)) → P (get_or (set shelves k value) j 0)
word_set shelves k j value P many lt here else = got_set P shelves k j value 0 (omega arith) here else

module _ (k : ℕ) (below : k < 16) (cells cells' : List PoolCell) (t : TookAll k cells cells') (shelves : List ℕ) where
  -- no record is on the shelf
  pub bare_then : IsBare cells' k
  bare_then i generation next at = let x = t.each i (on k generation next) at in took_none k x.0 (on k generation next) x.2 generation next refl

  other_stays : (j i generation : ℕ) (next : Option RefParts) → j ≢ k → At cells i (on j generation next) → At cells' i (on j generation next)
  other_stays j i generation next ne at = let y = at_below cells' i (let l = below_at cells i (on j generation next) at in let m = t.many in omega arith) in let x = t.each i y.0 y.1 in let same = one_at cells i x.0 (on j generation next) x.1 at in
      y.1 ∙ ap some (took_kept k j x.0 y.0 x.2 ne generation next same ∙ same)

  other_was : (j i generation : ℕ) (next : Option RefParts) → At cells' i (on j generation next) → At cells i (on j generation next)
  other_was j i generation next at = let x = t.each i (on j generation next) at in x.1 ∙ ap some (took_same k x.0 (on j generation next) x.2 (λ e. let none : ⊥ = cc in none))

  -- the shelf is empty, and the others are as they were
  pub shelves_took : ShelvesFit cells shelves → ShelvesFit cells' (set shelves k 0)
  shelves_took f = record {
    many = length-set shelves k 0 ∙ f.many;
    each = λ j lt. word_set shelves k j 0 (ShelfFits cells' j) f.many below (λ e. inl (refl, subst (IsBare cells') (sym e) bare_then))
        (λ ne. shelf_seen cells cells' j (get_or shelves j 0) (λ i g n at. other_stays j i g n ne at) (λ i g n at. other_was j i g n at) (f.each j lt));
    few = λ i j g n at. f.few i j g n (other_was j i g n at);
  }

  -- the other way: the shelf has the chain, and the others are as they were
  pub shelves_gave : (value : ℕ) → HasChain cells k (ref_in value) → ShelvesFit cells' shelves → ShelvesFit cells (set shelves k value)
  shelves_gave value chain f = record {
    many = length-set shelves k value ∙ f.many;
    each = λ j lt. word_set shelves k j value (ShelfFits cells j) f.many below (λ e. inr (subst (λ (z : ℕ). HasChain cells z (ref_in value)) (sym e) chain))
        (λ ne. shelf_seen cells' cells j (get_or shelves j 0) (λ i g n at. other_was j i g n at) (λ i g n at. other_stays j i g n ne at) (f.each j lt));
    few = λ i j g n at. by i j g n at (ℕ_discrete j k);
  }
    where
      by : (i j g : ℕ) (n : Option RefParts) → At cells i (on j g n) → Dec (j ≡ k) → j < 16
      by i j g n at (yes e) = omega arith
      by i j g n at (no ne) = f.few i j g n (other_stays j i g n ne at)

-- whether a record is on shelf k
abbrev pub is_on_cell : ℕ → PoolCell → Bool
is_on_cell k off = false
is_on_cell k (on j generation next) = eqb j k

on_cell : (k : ℕ) (cell : PoolCell) → is_on_cell k cell ≡ true → (generation : ℕ) × (next : Option RefParts) × (cell ≡ on k generation next)
on_cell k off h = let none : ⊥ = cc in absurd none
on_cell k (on j generation next) h = (generation, next, ap (λ (z : ℕ). on z generation next) (eqb-true j k h))

-- where no entry counts
none_count : {A : Type 0} (p : A → Bool) (l : List A) → ((i : ℕ) (a : A) → At l i a → p a ≡ false) → count_by p l ≡ 0
none_count p [] h = refl
none_count p (x ∷ xs) h = let e = count_cons p x xs in let b : bit (p x) ≡ 0 = ap bit (h 0 x refl) in let r = none_count p xs (λ i a at. h (suc i) a at) in omega arith

-- pairs of a list without its first entry
first_pairs : (r : RefParts) (rs : List RefParts) → AllPairs (λ a b. a.index ≢ b.index) (r ∷ rs) → (n : ℕ) (q : RefParts) → At rs n q → r.index ≢ q.index
first_pairs r rs pairs n q at = subst (λ (z : RefParts). r.index ≢ z.index) (get_at rs n q r at) (pairs 0 (suc n) r (omega arith) (let l = below_at rs n q at in omega arith))

rest_pairs : (r : RefParts) (rs : List RefParts) → AllPairs (λ a b. a.index ≢ b.index) (r ∷ rs) → AllPairs (λ a b. a.index ≢ b.index) rs
rest_pairs r rs pairs i j d lt within = pairs (suc i) (suc j) d (omega arith) (omega arith)

module _ (k : ℕ) where
  -- as many records are on the shelf as differ in a list of just these
  count_named : (refs : List RefParts) (cells : List PoolCell) → AllPairs (λ a b. a.index ≢ b.index) refs
      → ((n : ℕ) (r : RefParts) → At refs n r → (0 < r.index) × (cell : PoolCell) × At cells (r.index - 1) cell × (is_on_cell k cell ≡ true))
      → ((i generation : ℕ) (next : Option RefParts) → At cells i (on k generation next) → IsNamed i refs) → count_by (is_on_cell k) cells ≡ length refs
  count_named [] cells pairs each all = none_count (is_on_cell k) cells (λ i a at. by i a at (is_on_cell k a) refl)
    where
      by : (i : ℕ) (a : PoolCell) → At cells i a → (b : Bool) → is_on_cell k a ≡ b → b ≡ false
      by i a at false e = refl
      by i a at true e = let x = on_cell k a e in let y = all i x.0 x.1 (at ∙ ap some x.2) in absurd (some-ne-none y.1 (sym y.2))
  count_named (r ∷ rs) cells pairs each all = let here = each 0 r refl in let i : ℕ = r.index - 1 in
      let less = counts_less (is_on_cell k) cells i off off (below_at cells i here.1 here.2) (ap (is_on_cell k) (get_at cells i here.1 off here.2) ∙ here.3) refl in
      let rest = count_named rs (set cells i off) (rest_pairs r rs pairs) (λ n q at. still n q at) (λ j g next at. named j g next at) in omega arith
    where
      still : (n : ℕ) (q : RefParts) → At rs n q → (0 < q.index) × (cell : PoolCell) × At (set cells (r.index - 1) off) (q.index - 1) cell × (is_on_cell k cell ≡ true)
      still n q at = let x = each (suc n) q at in let other = first_pairs r rs pairs n q at in let some_first = (each 0 r refl).0 in
          (x.0, x.1, set_else cells (r.index - 1) (q.index - 1) off (λ e. other (let a = x.0 in omega arith)) ∙ x.2, x.3)

      in_rest : (j n : ℕ) (q : RefParts) → At (r ∷ rs) n q → q.index ≡ j + 1 → j ≢ r.index - 1 → IsNamed j rs
      in_rest j zero q at is ne = let same : r.index ≡ q.index = ap (λ (z : RefParts). z.index) (some-injective r q at) in absurd (ne (omega arith))
      in_rest j (suc n) q at is ne = (n, q, at, is)

      named : (j g : ℕ) (next : Option RefParts) → At (set cells (r.index - 1) off) j (on k g next) → IsNamed j rs
      named j g next at = ⊎_elim (λ x. let same : off ≡ on k g next = x.1 in let none : ⊥ = cc in absurd none)
          (λ x. let y = all j g next x.1 in in_rest j y.0 y.1 y.2 y.3 x.0) (at_set cells (r.index - 1) j off (on k g next) at)

  -- each record of a chain is on its shelf
  pub chain_each : (cells : List PoolCell) (head : Option RefParts) (refs : List RefParts) → ChainOn cells k head refs → (n : ℕ) (r : RefParts) → At refs n r
      → (0 < r.index) × (next : Option RefParts) × At cells (r.index - 1) (on k r.generation next)
  chain_each cells head [] c n r at = absurd (some-ne-none r (sym at))
  chain_each cells head (q ∷ rs) c zero r at = subst (λ (z : RefParts). (0 < z.index) × (next : Option RefParts) × At cells (z.index - 1) (on k z.generation next)) (some-injective q r at) (c.1, c.2, c.3)
  chain_each cells head (q ∷ rs) c (suc n) r at = chain_each cells c.2 rs c.4 n r at

  -- so 32 records are on a shelf that has a chain
  pub chain_count : (cells : List PoolCell) (head : Option RefParts) → HasChain cells k head → count_by (is_on_cell k) cells ≡ 32
  chain_count cells head x = count_named x.refs cells x.distinct (λ n r at. let y = chain_each cells head x.refs x.leads n r at in (y.0, on k r.generation y.1, y.2, eq-eqb k k refl)) x.all ∙ x.many

-- a shelf word of 0 names no chain
pub bare_shelf : (cells : List PoolCell) (k value : ℕ) → ShelfFits cells k value → value ≡ 0 → IsBare cells k
unfolding ref_in
bare_shelf cells k value f zero_is = ⊎_elim (λ x. x.1) (λ x. absurd (by x.refs (ref_in value) (ap ref_in zero_is) x.leads x.many)) f
  where
    by : (refs : List RefParts) (head : Option RefParts) → head ≡ ref_in 0 → ChainOn cells k head refs → length refs ≡ 32 → ⊥
    by [] head e c m = omega arith
    by (r ∷ rs) head e c m = let none : None ≡ Some r = sym e ∙ c.0 in let no : ⊥ = cc in no

-- another one does
pub full_shelf : (cells : List PoolCell) (k value : ℕ) → ShelfFits cells k value → value ≢ 0 → HasChain cells k (ref_in value)
full_shelf cells k value f some_value = ⊎_elim (λ x. absurd (some_value x.0)) (λ x. x) f
