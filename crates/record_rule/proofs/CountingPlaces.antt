-- Each record is counted in one place.
use Rattle.std.proofs.Common.{◌≡◌, ℕ, zero, suc, ◌+◌, ◌-◌, ◌<◌, ◌≤◌, List, [], ◌∷◌, map, length, get_or, Bool, true, false, cond, ⊎_elim, sym, refl, ap, ◌∙◌, subst, arith}
use Rattle.std.specs.List.{count_by, sum_by}
use mathlib.Core.Option.{some-injective, some-ne-none}
use Rattle.std.proofs.lemmas.Bool.Decides.{leb_tells}
use Rattle.std.proofs.lemmas.List.Sums.{sum_by-cons}
use Rattle.record_memory.specs.declared.books.Setup.{Setup}
use Rattle.record_memory.specs.declared.books.Standing.{Standing}
use Rattle.record_memory.specs.declared.books.Standing.TheVariants.{Handing, Own, Spare, TakenOut, Limbo, Free, Spent}
use Rattle.record_memory.specs.declared.books.Place.{Place}
use Rattle.record_memory.specs.declared.books.Place.TheVariants.{Undrawn, Root, Linked, Shelved, Of}
use Rattle.row_words.specs.Refs.{RefParts}
use Rattle.row_words.specs.Packing.{own_in}
use Rattle.record_rule.specs.Records.{IsSetup, Record, IsSound, carried}
use Rattle.record_rule.specs.Inputs.{taken_cell, taken_at}
use Rattle.record_rule.specs.Taken.{generation_of}
use Rattle.record_rule.specs.Facts.{At}
use Rattle.record_rule.specs.Standings.{is_undrawn, is_root, is_linked, is_shelved, is_had, is_handing, is_own, is_spare, is_taken_out, is_limbo, is_free, is_spent}
use Rattle.record_rule.specs.PlaceCounts.{count_in, drawn_in, reused_in, unreused_in, generation_in, is_from, CountsAddUp}

abbrev pub bit : Bool → ℕ
bit b = cond b 1 0

bit_zero : (b : Bool) → bit b ≡ 0 → b ≡ false
bit_zero true e = absurd (omega (arith, e))
bit_zero false e = refl

-- what a place counts for in the places of records that were drawn
abbrev had_bits : Place → ℕ
had_bits p = bit (is_linked p) + bit (is_shelved p) + (bit (is_had is_handing p) + bit (is_had is_own p) + bit (is_had is_spare p) + bit (is_had is_taken_out p))
    + (bit (is_had is_limbo p) + bit (is_had is_free p) + bit (is_had is_spent p))

pub count_cons : {A : Type 0} (p : A → Bool) (x : A) (xs : List A) → count_by p (x ∷ xs) ≡ bit (p x) + count_by p xs
count_cons p x xs = sum_by-cons (λ y. bit (p y)) x xs

pub in_cons : (test : Place → Bool) (r : Record) (rs : List Record) → count_in test (r ∷ rs) ≡ bit (test r.place) + count_in test rs
in_cons test r rs = count_cons (λ (x : Record). test x.place) r rs

each_standing : (c : ℕ) (s : Standing) → had_bits (Of c s) ≡ 1
each_standing c (Handing n) = refl
each_standing c Own = refl
each_standing c Spare = refl
each_standing c TakenOut = refl
each_standing c Limbo = refl
each_standing c Free = refl
each_standing c Spent = refl

each_place : (p : Place) → bit (is_root p) + bit (is_undrawn p) + had_bits p ≡ 1
each_place Undrawn = refl
each_place Root = refl
each_place Linked = refl
each_place (Shelved k) = refl
each_place (Of c s) = let h = each_standing c s in omega (arith, h)

-- each record is counted once
all_counted : (l : List Record) → count_in is_root l + count_in is_undrawn l + drawn_in l ≡ length l
all_counted [] = refl
all_counted (r ∷ rs) =
    let h = all_counted rs in
    let e = each_place r.place in
    let a = in_cons is_root r rs in
    let b = in_cons is_undrawn r rs in
    let c = in_cons is_linked r rs in
    let d = in_cons is_shelved r rs in
    let f = in_cons (is_had is_handing) r rs in
    let g = in_cons (is_had is_own) r rs in
    let i = in_cons (is_had is_spare) r rs in
    let j = in_cons (is_had is_taken_out) r rs in
    let k = in_cons (is_had is_limbo) r rs in
    let l = in_cons (is_had is_free) r rs in
    let m = in_cons (is_had is_spent) r rs in
    omega (arith, h, e, a, b, c, d, f, g, i, j, k, l, m)

module _ {A : Type 0} (p : A → Bool) where
  -- where the first entries pass a test and no other does
  pub first_ones : (l : List A) (n : ℕ) → n ≤ length l → ((i : ℕ) (a : A) → At l i a → i < n → p a ≡ true) → ((i : ℕ) (a : A) → At l i a → n ≤ i → p a ≡ false) → count_by p l ≡ n
  first_ones [] zero le passes fails = refl
  first_ones [] (suc n) le passes fails = absurd (omega arith)
  first_ones (x ∷ xs) zero le passes fails =
      let h = first_ones xs zero (omega arith) (λ i a at lt. absurd (omega arith)) (λ i a at ge. fails (suc i) a at (omega arith)) in
      let e = ap bit (fails zero x refl (omega arith)) in let z = count_cons p x xs in omega (arith, h, e, z)
  first_ones (x ∷ xs) (suc n) le passes fails =
      let h = first_ones xs n (omega arith) (λ i a at lt. passes (suc i) a at (omega arith)) (λ i a at ge. fails (suc i) a at (omega arith)) in
      let e = ap bit (passes zero x refl (omega arith)) in let z = count_cons p x xs in omega (arith, h, e, z)

  -- where none is counted, none passes
  none_of : (l : List A) → count_by p l ≡ 0 → (i : ℕ) (a : A) → At l i a → p a ≡ false
  none_of [] e i a at = absurd (some-ne-none a (sym at))
  none_of (x ∷ xs) e zero a at = subst (λ y. p y ≡ false) (some-injective x a at) (bit_zero (p x) (let z = count_cons p x xs in omega (arith, e, z)))
  none_of (x ∷ xs) e (suc i) a at = none_of xs (let z = count_cons p x xs in omega (arith, e, z)) i a at

not_root : (p : Place) → ¬ (p ≡ Root) → is_root p ≡ false
not_root Undrawn ne = refl
not_root Root ne = absurd (ne refl)
not_root Linked ne = refl
not_root (Shelved k) ne = refl
not_root (Of c s) ne = refl

module _ (setup : Setup) where
  -- a row has had a first generation, or its record wasn't drawn
  abbrev IsOneOf : Record → Type 0
  IsOneOf r = bit (is_from setup.first r.row) + bit (is_undrawn r.place) ≡ 1

  from_by : (r : Record) (n : ℕ) → own_in (get_or r.row 0 0) ≡ n → setup.first ≤ n → is_undrawn r.place ≡ false → IsOneOf r
  from_by r n own le drawn = ⊎_elim
      (λ t. let a = ap bit t.0 in let b = ap bit drawn in omega (arith, a, b))
      (λ t. absurd (let z = t.1 in omega (arith, z, own, le)))
      (leb_tells setup.first (own_in (get_or r.row 0 0)))

  undrawn_by : (r : Record) → own_in (get_or r.row 0 0) + 1 ≡ setup.first → is_undrawn r.place ≡ true → IsOneOf r
  undrawn_by r own undrawn = ⊎_elim
      (λ t. absurd (let z = t.1 in omega (arith, z, own)))
      (λ t. let a = ap bit t.0 in let b = ap bit undrawn in omega (arith, a, b))
      (leb_tells setup.first (own_in (get_or r.row 0 0)))

  module _ (i : ℕ) (r : Record) (s : IsSound setup i r) where
    word_is : own_in (get_or r.row 0 0) ≡ carried r.place r.generation 0
    word_is = s.generations 0 (omega arith)

    drawn_row : (p : Place) → r.place ≡ p → ¬ (p ≡ Undrawn) → carried p r.generation 0 ≡ r.generation → is_undrawn p ≡ false → IsOneOf r
    drawn_row p e ne whole drawn = from_by r r.generation (word_is ∙ ap (λ q. carried q r.generation 0) e ∙ whole) (s.born (λ q. ne (sym e ∙ q))) (ap is_undrawn e ∙ drawn)

    had_row : (c : ℕ) (t : Standing) → r.place ≡ Of c t → is_handing t ≡ false → IsOneOf r
    had_row c (Handing n) e fails = let none : ⊥ = cc in absurd none
    had_row c Own e fails = drawn_row (Of c Own) e (λ q. cc) refl refl
    had_row c Spare e fails = drawn_row (Of c Spare) e (λ q. cc) refl refl
    had_row c TakenOut e fails = drawn_row (Of c TakenOut) e (λ q. cc) refl refl
    had_row c Limbo e fails = drawn_row (Of c Limbo) e (λ q. cc) refl refl
    had_row c Free e fails = drawn_row (Of c Free) e (λ q. cc) refl refl
    had_row c Spent e fails = drawn_row (Of c Spent) e (λ q. cc) refl refl

    row_by : (p : Place) → r.place ≡ p → is_had is_handing p ≡ false → IsOneOf r
    row_by Undrawn e fails = undrawn_by r (let u = s.unborn e in let w = word_is ∙ ap (λ q. carried q r.generation 0) e in omega (arith, u, w)) (ap is_undrawn e)
    row_by Root e fails = drawn_row Root e (λ q. cc) refl refl
    row_by Linked e fails = drawn_row Linked e (λ q. cc) refl refl
    row_by (Shelved k) e fails = drawn_row (Shelved k) e (λ q. cc) refl refl
    row_by (Of c t) e fails = had_row c t e fails

    -- what its row shows is how often it was handed out anew
    abbrev IsReused : Type 0
    IsReused = generation_in r.row - setup.first ≡ generation_of (taken_cell r) - setup.first

    reused_row : (p : Place) → r.place ≡ p → carried p r.generation 0 ≡ r.generation → generation_of (taken_at p r) ≡ r.generation → IsReused
    reused_row p e whole generation = (λ k. (word_is ∙ ap (λ q. carried q r.generation 0) e ∙ whole) k - setup.first) ∙ (λ k. (sym generation ∙ ap (λ q. generation_of (taken_at q r)) (sym e)) k - setup.first)

    reused_had : (c : ℕ) (t : Standing) → r.place ≡ Of c t → is_handing t ≡ false → IsReused
    reused_had c (Handing n) e fails = let none : ⊥ = cc in absurd none
    reused_had c Own e fails = reused_row (Of c Own) e refl refl
    reused_had c Spare e fails = reused_row (Of c Spare) e refl refl
    reused_had c TakenOut e fails = reused_row (Of c TakenOut) e refl refl
    reused_had c Limbo e fails = reused_row (Of c Limbo) e refl refl
    reused_had c Free e fails = reused_row (Of c Free) e refl refl
    reused_had c Spent e fails = reused_row (Of c Spent) e refl refl

    reused_by : (p : Place) → r.place ≡ p → is_had is_handing p ≡ false → IsReused
    reused_by Undrawn e fails =
        let u = s.unborn e in
        let w = word_is ∙ ap (λ q. carried q r.generation 0) e in
        let n = ap (λ q. generation_of (taken_at q r)) e in omega (arith, u, w, n)
    reused_by Root e fails = reused_row Root e refl refl
    reused_by Linked e fails = reused_row Linked e refl refl
    reused_by (Shelved k) e fails = reused_row (Shelved k) e refl refl
    reused_by (Of c t) e fails = reused_had c t e fails

  rows_reused : (l : List Record) → ((i : ℕ) (r : Record) → At l i r → generation_in r.row - setup.first ≡ generation_of (taken_cell r) - setup.first) → sum_by (λ (row : List ℕ). generation_in row - setup.first) (map (λ (r : Record). r.row) l) ≡ reused_in setup l
  rows_reused [] each = refl
  rows_reused (r ∷ rs) each =
      let h = rows_reused rs (λ i x at. each (suc i) x at) in
      let e = each zero r refl in
      let a = sum_by-cons (λ (row : List ℕ). generation_in row - setup.first) r.row (map (λ (x : Record). x.row) rs) in
      let b = sum_by-cons (λ (x : Record). generation_of (taken_cell x) - setup.first) r rs in omega (arith, h, e, a, b)

  rows_counted : (l : List Record) → ((i : ℕ) (r : Record) → At l i r → IsOneOf r) → count_by (is_from setup.first) (map (λ (r : Record). r.row) l) + count_in is_undrawn l ≡ length l
  rows_counted [] each = refl
  rows_counted (r ∷ rs) each = let h = rows_counted rs (λ i x at. each (suc i) x at) in let e = each zero r refl in
      let a = count_cons (is_from setup.first) r.row (map (λ (x : Record). x.row) rs) in let b = count_cons (λ (x : Record). is_undrawn x.place) r rs in omega (arith, h, e, a, b)

  module _ (numbers : IsSetup setup) (records : List Record) (many : length records ≡ setup.records) (sound : (i : ℕ) (r : Record) → At records i r → IsSound setup i r) where
    roots_counted : count_in is_root records ≡ setup.roots
    roots_counted = first_ones (λ (r : Record). is_root r.place) records setup.roots (let le = numbers.rooted in omega (arith, many, le))
        (λ i r at lt. ap is_root ((sound i r at).roots lt)) (λ i r at ge. not_root r.place (λ e. let lt = (sound i r at).no_root e in omega arith))

    pub counts_add_up : (taken_out : List RefParts) → length taken_out ≡ reused_in setup records + unreused_in records → CountsAddUp setup (map (λ (r : Record). r.row) records) records taken_out
    counts_add_up taken_out takings = record {
      roots = roots_counted;
      all = let h = all_counted records in omega (arith, h, roots_counted, many);
      drawn = λ none. let each = none_of (λ (r : Record). is_had is_handing r.place) records none in
          let h = rows_counted records (λ i r at. row_by i r (sound i r at) r.place refl (each i r at)) in
          let k = all_counted records in omega (arith, h, k, roots_counted, many);
      reused = λ none. let each = none_of (λ (r : Record). is_had is_handing r.place) records none in
          rows_reused records (λ i r at. reused_by i r (sound i r at) r.place refl (each i r at));
      takings = takings;
    }
