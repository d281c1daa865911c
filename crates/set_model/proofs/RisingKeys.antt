-- A list of keys that rise, and the set of its keys: where a key stands, and what is left after an edit.
use Rattle.std.proofs.Common.{◌≡◌, ℕ, suc, zero, ◌<◌, ◌≤◌, true, false, eqb, List, [], ◌∷◌, ◌++◌, length, get_or, take, drop, refl, inl, inr, sym, ap, ◌∙◌, arith}
use Rattle.std.specs.Prelude.{Result, Ok, Err, IfOk, IfErr, is_ok}
use Rattle.std.specs.List.{AllByRecursion, IsDistinct, insert, remove}
use Rattle.std.proofs.lemmas.Bool.{eq-eqb, ne_eqb, or_right, cases_lt}
use Rattle.std.proofs.lemmas.List.{take-append-drop}
use Rattle.set_model.specs.Keys as keyset
use Rattle.set_model.specs.Keys.{Keys, contains, size_of, sum_of, from_list}
use Rattle.set_model.specs.Rising.{IsRising, StandsAt, BelongsAt}
use Rattle.set_model.proofs.KeySets.{absent, contains-insert, insert_swap, insert-remove, remove_inserted}

AllByRecursion-weaker : (P Q : ℕ → Type 0) → ((y : ℕ) → P y → Q y) → (keys : List ℕ) → AllByRecursion P keys → AllByRecursion Q keys
AllByRecursion-weaker P Q f [] all = tt
AllByRecursion-weaker P Q f (y ∷ keys) all = (f y all.0, AllByRecursion-weaker P Q f keys all.1)

AllByRecursion-at : (P : ℕ → Type 0) (keys : List ℕ) → AllByRecursion P keys → (i : ℕ) → i < length keys → P (get_or keys i 0)
AllByRecursion-at P [] all i within = absurd (omega arith)
AllByRecursion-at P (y ∷ keys) all zero within = all.0
AllByRecursion-at P (y ∷ keys) all (suc i) within = AllByRecursion-at P keys all.1 i (omega arith)

AllByRecursion-from_each : (P : ℕ → Type 0) (keys : List ℕ) → ((i : ℕ) → i < length keys → P (get_or keys i 0)) → AllByRecursion P keys
AllByRecursion-from_each P [] each = tt
AllByRecursion-from_each P (y ∷ keys) each = (each 0 (omega arith), AllByRecursion-from_each P keys (λ i within. each (suc i) (omega arith)))

AllByRecursion-insert : (P : ℕ → Type 0) (keys : List ℕ) (i key : ℕ) → P key → AllByRecursion P keys → AllByRecursion P (insert keys i key)
AllByRecursion-insert P keys zero key one all = (one, all)
AllByRecursion-insert P [] (suc i) key one all = (one, tt)
AllByRecursion-insert P (y ∷ keys) (suc i) key one all = (all.0, AllByRecursion-insert P keys i key one all.1)

AllByRecursion-remove : (P : ℕ → Type 0) (keys : List ℕ) (i : ℕ) → AllByRecursion P keys → AllByRecursion P (remove keys i)
AllByRecursion-remove P [] zero all = tt
AllByRecursion-remove P [] (suc i) all = tt
AllByRecursion-remove P (y ∷ keys) zero all = all.1
AllByRecursion-remove P (y ∷ keys) (suc i) all = (all.0, AllByRecursion-remove P keys i all.1)

-- what a binary search asks
pub rises : (keys : List ℕ) → IsRising keys → (i j : ℕ) → i ≤ j → j < length keys → get_or keys i 0 ≤ get_or keys j 0
rises [] rising i j order within = absurd (omega arith)
rises (y ∷ keys) rising zero zero order within = omega arith
rises (y ∷ keys) rising zero (suc j) order within = let above : y < get_or keys j 0 = AllByRecursion-at (λ later. y < later) keys rising.0 j (omega arith) in omega arith
rises (y ∷ keys) rising (suc i) zero order within = absurd (omega arith)
rises (y ∷ keys) rising (suc i) (suc j) order within = rises keys rising.1 i j (omega arith) (omega arith)

-- a key put where the smaller ones end
rising_insert : (keys : List ℕ) (i key : ℕ) → IsRising keys → i ≤ length keys → ((k : ℕ) → k < i → get_or keys k 0 < key) → ((k : ℕ) → i ≤ k → k < length keys → key < get_or keys k 0) → IsRising (insert keys i key)
rising_insert keys zero key rising within below above = (AllByRecursion-from_each (λ later. key < later) keys (λ k short. above k (omega arith) short), rising)
rising_insert [] (suc i) key rising within below above = absurd (omega arith)
rising_insert (y ∷ keys) (suc i) key rising within below above = (
  AllByRecursion-insert (λ later. y < later) keys i key (below 0 (omega arith)) rising.0,
  rising_insert keys i key rising.1 (omega arith) (λ k short. below (suc k) (omega arith)) (λ k far short. above (suc k) (omega arith) (omega arith)),
)

pub IsRising-insert : (keys : List ℕ) (key i : ℕ) → IsRising keys → BelongsAt keys key i → IsRising (insert keys i key)
IsRising-insert keys key i rising place = rising_insert keys i key rising place.within place.smaller place.greater

pub IsRising-remove : (keys : List ℕ) (i : ℕ) → IsRising keys → IsRising (remove keys i)
IsRising-remove [] zero rising = tt
IsRising-remove [] (suc i) rising = tt
IsRising-remove (y ∷ keys) zero rising = rising.1
IsRising-remove (y ∷ keys) (suc i) rising = (AllByRecursion-remove (λ later. y < later) keys i rising.0, IsRising-remove keys i rising.1)

absent_below : (keys : List ℕ) (key : ℕ) → AllByRecursion (λ later. key < later) keys → AllByRecursion (λ y. eqb key y ≡ false) keys
absent_below keys key all = AllByRecursion-weaker (λ later. key < later) (λ y. eqb key y ≡ false) (λ y below. ne_eqb key y (λ same. omega arith)) keys all

-- no key of a rising list stands twice
pub IsDistinct-from_rising : (keys : List ℕ) → IsRising keys → IsDistinct eqb keys
unfolding IsDistinct
IsDistinct-from_rising [] rising = tt
IsDistinct-from_rising (y ∷ keys) rising = (absent_below keys y rising.0, IsDistinct-from_rising keys rising.1)

pub absent_at : (keys : List ℕ) (key i : ℕ) → BelongsAt keys key i → contains (from_list keys) key ≡ false
absent_at keys key i place = absent keys key (AllByRecursion-from_each (λ y. eqb key y ≡ false) keys (λ k short. ne_eqb key _ (λ same.
    elim (cases_lt k i) [ inl near ↦ (let lower = place.smaller k near in omega arith) | inr far ↦ (let higher = place.greater k far short in omega arith) ])))

there : (keys : List ℕ) (i key : ℕ) → i < length keys → get_or keys i 0 ≡ key → contains (from_list keys) key ≡ true
there [] i key within is = absurd (omega arith)
there (y ∷ keys) zero key within is = contains-insert (from_list keys) y key ∙ rw (eq-eqb key y (sym is))
there (y ∷ keys) (suc i) key within is = contains-insert (from_list keys) y key ∙ or_right _ _ (there keys i key (omega arith) is)

pub present_at : (keys : List ℕ) (key i : ℕ) → StandsAt keys key i → contains (from_list keys) key ≡ true
present_at keys key i place = there keys i key place.within place.is

-- a search that tells a place or where the key belongs tells whether it is there
pub is_ok-search : (r : Result ℕ ℕ) (keys : List ℕ) (key : ℕ) → IfOk r (StandsAt keys key) → IfErr r (BelongsAt keys key) → is_ok r ≡ contains (from_list keys) key
is_ok-search (Ok place) keys key found none = sym (present_at keys key place found)
is_ok-search (Err place) keys key found none = sym (absent_at keys key place none)

from_list-middle : (front back : List ℕ) (key : ℕ) → from_list (front ++ key ∷ back) ≡ keyset.insert (from_list (front ++ back)) key
from_list-middle [] back key = refl
from_list-middle (y ∷ front) back key = ap (λ s. keyset.insert s y) (from_list-middle front back key) ∙ insert_swap (from_list (front ++ back)) key y

pub from_list-insert : (keys : List ℕ) (i key : ℕ) → from_list (insert keys i key) ≡ keyset.insert (from_list keys) key
from_list-insert keys i key = from_list-middle (take i keys) (drop i keys) key ∙ ap (λ l. keyset.insert (from_list l) key) (take-append-drop i keys)

pub from_list-remove : (keys : List ℕ) (i : ℕ) → IsRising keys → i < length keys → from_list (remove keys i) ≡ keyset.remove (from_list keys) (get_or keys i 0)
from_list-remove [] i rising within = absurd (omega arith)
from_list-remove (y ∷ keys) zero rising within = sym (remove_inserted (from_list keys) y (absent keys y (absent_below keys y rising.0)))
from_list-remove (y ∷ keys) (suc i) rising within =
    let above : y < get_or keys i 0 = AllByRecursion-at (λ later. y < later) keys rising.0 i (omega arith) in
    ap (λ s. keyset.insert s y) (from_list-remove keys i rising.1 (omega arith)) ∙ insert-remove (from_list keys) y (get_or keys i 0) (λ same. omega arith)
