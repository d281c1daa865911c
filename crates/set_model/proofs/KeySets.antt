-- What is in a set of keys, how many keys, and their sum, after an insertion and a removal.
use Rattle.std.proofs.Common.{◌≡◌, ℕ, ◌+◌, ◌-◌, ◌≤◌, Bool, true, false, cond, not, ◌&&◌, ◌||◌, eqb, List, [], ◌∷◌, length, map, refl, inl, inr, sym, ap, ◌∙◌, arith}
use Rattle.std.specs.Prelude.{sum, is_some, Option, Some, None, ◌≢◌}
use Rattle.std.specs.declared.cmp.Ordering.TheVariants.{Less, Equal, Greater}
use Rattle.std.specs.List.{list_any, AllByRecursion, IsDistinct}
use Rattle.std.specs.Ordering.{nat_cmp, is_eq}
use Rattle.std.specs.Cmp.{nat_cmp_total, unsigned_tied}
use Rattle.std.specs.FinMap as finite
use Rattle.std.specs.FinMap.Entries.{by_order}
use Rattle.std.proofs.lemmas.Bool.{both_ways, eq-eqb, ne_eqb, eqb-true, cases_Bool}
use Rattle.std.proofs.lemmas.List.Sums.{sum_by-cons}
use Rattle.set_model.specs.Keys.{Keys, empty, contains, insert, remove, size_of, sum_of, from_list}

abbrev marked : Bool → Option (Unit {0})
marked b = cond b (Some tt) None

marks : (x : Option (Unit {0})) → x ≡ marked (is_some x)
marks None = refl
marks (Some u) = refl

-- two sets with the same keys are equal
pub same_keys : (s t : Keys) → ((key : ℕ) → contains s key ≡ contains t key) → s ≡ t
same_keys s t is = finite.same_map nat_cmp_total finite.nat_cmp-IsAntisymmetric s t (λ q. marks _ ∙ ap marked (is q) ∙ sym (marks _))

some_or : (b : Bool) (x : Option (Unit {0})) → is_some (cond b (Some tt) x) ≡ (b || is_some x)
some_or true x = refl
some_or false x = refl

none_or : (b : Bool) (x : Option (Unit {0})) → is_some (cond b None x) ≡ (not b && is_some x)
none_or true x = refl
none_or false x = refl

pub contains-empty : (key : ℕ) → contains empty key ≡ false
contains-empty key = ap is_some (finite.get-empty nat_cmp key)

pub contains-insert : (keys : Keys) (added key : ℕ) → contains (insert keys added) key ≡ (eqb key added || contains keys key)
contains-insert keys added key =
    ap is_some (finite.get-insert nat_cmp_total keys added tt key) ∙ some_or _ _ ∙ ap (λ b. b || contains keys key) (unsigned_tied key added)

pub contains-remove : (keys : Keys) (gone key : ℕ) → contains (remove keys gone) key ≡ (not (eqb key gone) && contains keys key)
contains-remove keys gone key =
    ap is_some (finite.get-remove nat_cmp_total keys gone key) ∙ none_or _ _ ∙ ap (λ b. not b && contains keys key) (unsigned_tied key gone)

pub contains-from_list : (keys : List ℕ) (key : ℕ) → contains (from_list keys) key ≡ list_any (eqb key) keys
contains-from_list [] key = contains-empty key
contains-from_list (k ∷ keys) key = contains-insert (from_list keys) k key ∙ ap (λ b. eqb key k || b) (contains-from_list keys key)

absorbed : (b c : Bool) → (b ≡ true → c ≡ true) → (b || c) ≡ c
absorbed true c h = sym (h refl)
absorbed false c h = refl

kept : (b c : Bool) → (b ≡ true → c ≡ false) → (not b && c) ≡ c
kept true c h = sym (h refl)
kept false c h = refl

added_again : (b c : Bool) → (b ≡ true → c ≡ true) → (b || (not b && c)) ≡ c
added_again true c h = sym (h refl)
added_again false c h = refl

taken_again : (b c : Bool) → (b ≡ true → c ≡ false) → (not b && (b || c)) ≡ c
taken_again true c h = sym (h refl)
taken_again false c h = refl

either_first : (a b c : Bool) → (a || (b || c)) ≡ (b || (a || c))
either_first true true c = refl
either_first true false c = refl
either_first false b c = refl

apart_first : (a b c : Bool) → (a ≡ true → b ≡ false) → (a || (not b && c)) ≡ (not b && (a || c))
apart_first true b c h = ap (λ x. not x && true) (sym (h refl))
apart_first false b c h = refl

-- what is known of one key is known of each key that equals it
at_key : (keys : Keys) (key : ℕ) (b : Bool) → contains keys key ≡ b → (q : ℕ) → eqb q key ≡ true → contains keys q ≡ b
at_key keys key b is q same = ap (contains keys) (eqb-true q key same) ∙ is

-- to insert a key that is present changes nothing
pub insert_present : (keys : Keys) (key : ℕ) → contains keys key ≡ true → insert keys key ≡ keys
insert_present keys key there = same_keys _ _ (λ q. contains-insert keys key q ∙ absorbed _ _ (at_key keys key true there q))

-- to remove a key that is absent changes nothing
pub remove_absent : (keys : Keys) (key : ℕ) → contains keys key ≡ false → remove keys key ≡ keys
remove_absent keys key none = same_keys _ _ (λ q. contains-remove keys key q ∙ kept _ _ (at_key keys key false none q))

pub insert_removed : (keys : Keys) (key : ℕ) → contains keys key ≡ true → insert (remove keys key) key ≡ keys
insert_removed keys key there = same_keys _ _ (λ q.
    contains-insert (remove keys key) key q ∙ ap (λ c. eqb q key || c) (contains-remove keys key q) ∙ added_again _ _ (at_key keys key true there q))

pub remove_inserted : (keys : Keys) (key : ℕ) → contains keys key ≡ false → remove (insert keys key) key ≡ keys
remove_inserted keys key none = same_keys _ _ (λ q.
    contains-remove (insert keys key) key q ∙ ap (λ c. not (eqb q key) && c) (contains-insert keys key q) ∙ taken_again _ _ (at_key keys key false none q))

pub insert_swap : (keys : Keys) (a b : ℕ) → insert (insert keys a) b ≡ insert (insert keys b) a
insert_swap keys a b = same_keys _ _ (λ q.
    contains-insert (insert keys a) b q ∙ ap (λ c. eqb q b || c) (contains-insert keys a q) ∙ either_first (eqb q b) (eqb q a) (contains keys q)
    ∙ sym (contains-insert (insert keys b) a q ∙ ap (λ c. eqb q a || c) (contains-insert keys b q)))

pub insert-remove : (keys : Keys) (added gone : ℕ) → added ≢ gone → insert (remove keys gone) added ≡ remove (insert keys added) gone
insert-remove keys added gone other = same_keys _ _ (λ q.
    contains-insert (remove keys gone) added q ∙ ap (λ c. eqb q added || c) (contains-remove keys gone q)
    ∙ apart_first (eqb q added) (eqb q gone) (contains keys q) (λ same. ne_eqb q gone (λ e. other (sym (eqb-true q added same) ∙ e)))
    ∙ sym (contains-remove (insert keys added) gone q ∙ ap (λ c. not (eqb q gone) && c) (contains-insert keys added q)))

pub size_of-empty : size_of empty ≡ 0
size_of-empty = finite.len-empty nat_cmp (Unit {0})

pub size_of-insert : (keys : Keys) (key : ℕ) → size_of (insert keys key) ≡ cond (contains keys key) (size_of keys) (size_of keys + 1)
size_of-insert keys key = finite.len-insert nat_cmp_total keys key tt

pub size_of-remove : (keys : Keys) (key : ℕ) → size_of (remove keys key) ≡ cond (contains keys key) (size_of keys - 1) (size_of keys)
size_of-remove keys key = finite.len-remove nat_cmp_total keys key

-- a set with a key in it isn't empty
pub size_of-present : (keys : Keys) (key : ℕ) → contains keys key ≡ true → size_of (remove keys key) + 1 ≡ size_of keys
size_of-present keys key there =
    let gone : contains (remove keys key) key ≡ false = contains-remove keys key key ∙ ap (λ b. not b && contains keys key) (eq-eqb key key refl) in
    sym (ap (λ b. cond b (size_of (remove keys key)) (size_of (remove keys key) + 1)) gone) ∙ sym (size_of-insert (remove keys key) key) ∙ ap size_of (insert_removed keys key there)

-- an entry under a new key adds its key to the sum
sum-put : (key : ℕ) (entries : List (ℕ × Unit {0})) → is_some (finite.find nat_cmp key entries) ≡ false → sum (map (λ e. e.0) (finite.put nat_cmp key tt entries)) ≡ sum (map (λ e. e.0) entries) + key
sum-put key [] none = refl
sum-put key (e ∷ entries) none =
    elim (nat_cmp key e.0) as (λ r. is_some (cond (is_eq r) (Some e.1) (finite.find nat_cmp key entries)) ≡ false → sum (map (λ e. e.0) (by_order r ((key, tt) ∷ e ∷ entries) ((e.0, tt) ∷ entries) (e ∷ finite.put nat_cmp key tt entries))) ≡ sum (e.0 ∷ map (λ e. e.0) entries) + key) [
      | Less ↦ λ _. sum_by-cons (λ x. x) key (map (λ e. e.0) (e ∷ entries)) ∙ omega arith
      | Equal ↦ λ there. absurd (both_ways true there refl)
      | Greater ↦ λ later. sum_by-cons (λ x. x) e.0 (map (λ e. e.0) (finite.put nat_cmp key tt entries)) ∙ omega (arith, sum-put key entries later, sum_by-cons (λ x. x) e.0 (map (λ e. e.0) entries))
    ] none

sum_of-added : (keys : Keys) (key : ℕ) → contains keys key ≡ false → sum_of (insert keys key) ≡ sum_of keys + key
sum_of-added keys key none =
    ap (λ entries. sum (map (λ e. e.0) entries)) (finite.entries-insert nat_cmp_total keys key tt)
    ∙ sum-put key (finite.entries keys) (sym (ap is_some (finite.get-entries keys key)) ∙ none)

sum_of_none : (entries : List (ℕ × Unit {0})) → length entries ≡ 0 → sum (map (λ e. e.0) entries) ≡ 0
sum_of_none [] none = refl
sum_of_none (e ∷ entries) none = absurd (omega arith)

pub sum_of-empty : sum_of empty ≡ 0
sum_of-empty = sum_of_none (finite.entries (empty)) (sym (finite.len-entries empty) ∙ size_of-empty)

pub sum_of-insert : (keys : Keys) (key : ℕ) → sum_of (insert keys key) ≡ cond (contains keys key) (sum_of keys) (sum_of keys + key)
sum_of-insert keys key =
    elim (cases_Bool (contains keys key)) [
      | inl there ↦ ap sum_of (insert_present keys key there) ∙ ap (λ b. cond b (sum_of keys) (sum_of keys + key)) (sym there)
      | inr none ↦ sum_of-added keys key none ∙ ap (λ b. cond b (sum_of keys) (sum_of keys + key)) (sym none)
    ]

-- the key that is taken away makes the sum whole again
pub sum_of-present : (keys : Keys) (key : ℕ) → contains keys key ≡ true → sum_of (remove keys key) + key ≡ sum_of keys
sum_of-present keys key there =
    let gone : contains (remove keys key) key ≡ false = contains-remove keys key key ∙ ap (λ b. not b && contains keys key) (eq-eqb key key refl) in
    sym (sum_of-added (remove keys key) key gone) ∙ ap sum_of (insert_removed keys key there)

pub sum_of-remove-le : (keys : Keys) (key : ℕ) → sum_of (remove keys key) ≤ sum_of keys
sum_of-remove-le keys key =
    elim (cases_Bool (contains keys key)) [
      | inl there ↦ omega (arith, sum_of-present keys key there)
      | inr none ↦ omega (arith, ap sum_of (remove_absent keys key none))
    ]

-- a key that differs from each of a list isn't in the list's set
pub absent : (keys : List ℕ) (key : ℕ) → AllByRecursion (λ y. eqb key y ≡ false) keys → contains (from_list keys) key ≡ false
absent [] key others = contains-empty key
absent (y ∷ keys) key others = contains-insert (from_list keys) y key ∙ rw others.0 (absent keys key others.1)

-- a set is as large as a list that names each key once
pub size_of-from_list : (keys : List ℕ) → IsDistinct eqb keys → size_of (from_list keys) ≡ length keys
unfolding IsDistinct
size_of-from_list [] once = size_of-empty
size_of-from_list (y ∷ keys) once = size_of-insert (from_list keys) y ∙ rw (absent keys y once.0) (omega (arith, size_of-from_list keys once.1))

pub sum_of-from_list : (keys : List ℕ) → IsDistinct eqb keys → sum_of (from_list keys) ≡ sum keys
unfolding IsDistinct
sum_of-from_list [] once = sum_of-empty
sum_of-from_list (y ∷ keys) once =
    sum_of-insert (from_list keys) y ∙ rw (absent keys y once.0) (omega (arith, sum_of-from_list keys once.1, sum_by-cons (λ x. x) y keys))
