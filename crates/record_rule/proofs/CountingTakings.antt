-- How often the records were taken out, by their generations.
use Rattle.std.proofs.Common.{◌≡◌, ℕ, zero, suc, ◌+◌, ◌-◌, ◌<◌, ◌≤◌, List, [], ◌∷◌, map, length, eqb, leb, Bool, true, false, ⊎_elim, sym, refl, ap, ◌∙◌, subst, arith}
use Rattle.std.specs.Prelude.{◌&&◌}
use Rattle.std.specs.List.{count_by, sum_by}
use Rattle.std.proofs.lemmas.Bool.{and_parts, and_from, eqb-true, eq-eqb, leb-true, le-leb, false_from_ne_true}
use Rattle.std.proofs.lemmas.Bool.Decides.{eqb_tells, leb_tells}
use Rattle.std.proofs.lemmas.List.Sums.{sum_by-cons}
use mathlib.Core.Logic.{dite}
use native.Mathlib.Decide.{dec_le}
use mathlib.Core.Option.{some-injective, some-ne-none}
use Rattle.record_memory.specs.declared.books.Setup.{Setup}
use Rattle.record_memory.specs.declared.books.Standing.{Standing}
use Rattle.record_memory.specs.declared.books.Standing.TheVariants.{Handing, Own, Spare, TakenOut, Limbo, Free, Spent}
use Rattle.record_memory.specs.declared.books.Place.{Place}
use Rattle.record_memory.specs.declared.books.Place.TheVariants.{Undrawn, Root, Linked, Shelved, Of}
use Rattle.row_words.specs.Refs.{RefParts, refer}
use Rattle.record_rule.specs.Records.{Record, IsSound}
use Rattle.record_rule.specs.Inputs.{TakenCell, untaken, was_taken, taken_cell, taken_at, taken_had}
use Rattle.record_rule.specs.Facts.{At}
use Rattle.record_rule.specs.Taken.{generation_of, IsTakenAs, TakenFits}
use Rattle.record_rule.specs.Standings.{is_shelved, is_had, is_taken_out, is_limbo, is_free, is_spent}
use Rattle.record_rule.specs.PlaceCounts.{reused_in, unreused_in}
use Rattle.record_rule.proofs.Lists.{below_at, one_at, map_at}
use Rattle.record_rule.proofs.CountingPlaces.{bit, count_cons, in_cons, first_ones}

module _ {A : Type 0} where
  -- a count in two parts
  count_adds : (p q s : A → Bool) (l : List A) → ((a : A) → bit (p a) ≡ bit (q a) + bit (s a)) → count_by p l ≡ count_by q l + count_by s l
  count_adds p q s [] each = refl
  count_adds p q s (x ∷ xs) each =
      let h = count_adds p q s xs each in
      let e = each x in
      let a = count_cons p x xs in
      let b = count_cons q x xs in
      let c = count_cons s x xs in omega (arith, h, e, a, b, c)

  -- two tests that agree on the entries
  count_alike : (p q : A → Bool) (l : List A) → ((i : ℕ) (a : A) → At l i a → p a ≡ q a) → count_by p l ≡ count_by q l
  count_alike p q [] each = refl
  count_alike p q (x ∷ xs) each =
      let h = count_alike p q xs (λ i a at. each (suc i) a at) in
      let e = ap bit (each zero x refl) in
      let a = count_cons p x xs in
      let b = count_cons q x xs in omega (arith, h, e, a, b)

  -- one entry alone passes
  count_one : (p : A → Bool) (l : List A) (n : ℕ) (a : A) → At l n a → p a ≡ true → ((m : ℕ) (b : A) → At l m b → p b ≡ true → m ≡ n) → count_by p l ≡ 1
  count_one p [] n a at is only = absurd (some-ne-none a (sym at))
  count_one p (x ∷ xs) zero a at is only =
      let h = first_ones p xs zero (omega arith) (λ i b there lt. absurd (omega arith)) (λ i b there ge. false_from_ne_true (p b) (λ passes. let z = only (suc i) b there passes in omega arith)) in
      let e = ap bit (ap p (some-injective x a at) ∙ is) in
      let z = count_cons p x xs in omega (arith, h, e, z)
  count_one p (x ∷ xs) (suc n) a at is only =
      let h = count_one p xs n a at is (λ m b there passes. let z = only (suc m) b there passes in omega arith) in
      let e = ap bit (false_from_ne_true (p x) (λ passes. let z = only zero x refl passes in omega arith)) in
      let z = count_cons p x xs in omega (arith, h, e, z)

-- from a number on: the number itself, or from the next one on
step_bits : (g x : ℕ) → bit (leb g x) ≡ bit (eqb x g) + bit (leb (suc g) x)
step_bits g x = grind (arith, leb_tells g x, eqb_tells x g, leb_tells (suc g) x)

both_bits : (a : Bool) (g x : ℕ) → bit (a && leb g x) ≡ bit (a && eqb x g) + bit (a && leb (suc g) x)
both_bits true g x = step_bits g x
both_bits false g x = refl

-- the names of one record: this one, and those from a generation on
abbrev is_ref : ℕ → ℕ → RefParts → Bool
is_ref j g r = eqb r.index j && eqb r.generation g

abbrev is_later : ℕ → ℕ → RefParts → Bool
is_later j g r = eqb r.index j && leb g r.generation

and_from_right : (a b : Bool) → b ≡ true → a ≡ (a && b)
and_from_right true b e = sym e
and_from_right false b e = refl

module _ (taken_out : List RefParts) (once : (n m : ℕ) (r : RefParts) → At taken_out n r → At taken_out m r → n ≡ m) where
  -- a name that was taken out is counted once
  one_taken : (j g n : ℕ) → At taken_out n (refer j g) → count_by (is_ref j g) taken_out ≡ 1
  one_taken j g n at = count_one (is_ref j g) taken_out n (refer j g) at (and_from (eqb j j) (eqb g g) (eq-eqb j j refl) (eq-eqb g g refl))
      (λ m b there passes. let x = and_parts (eqb b.index j) (eqb b.generation g) passes in
      once m n (refer j g) (subst (At taken_out m) (λ k. record { index = (eqb-true b.index j x.0) k; generation = (eqb-true b.generation g x.1) k }) there) at)

  -- a run of generations of one record, each taken out
  run_counted : (j n g : ℕ) → ((x : ℕ) → x < n → (m : ℕ) × At taken_out m (refer j (g + x))) → ((m : ℕ) (r : RefParts) → At taken_out m r → r.index ≡ j → r.generation < g + n) → count_by (is_later j g) taken_out ≡ n
  run_counted j zero g has low = first_ones (is_later j g) taken_out zero (omega arith) (λ i a at lt. absurd (omega arith))
      (λ i a at ge. false_from_ne_true (is_later j g a) (λ passes. let x = and_parts (eqb a.index j) (leb g a.generation) passes in let u = low i a at (eqb-true a.index j x.0) in let v = leb-true g a.generation x.1 in omega arith))
  run_counted j (suc n) g has low =
      let first : (m : ℕ) × At taken_out m (refer j g) = let x = has 0 (omega arith) in (x.0, subst (λ (k : ℕ). At taken_out x.0 (refer j k)) (let e : g + 0 ≡ g = omega arith in e) x.1) in
      let h = run_counted j n (suc g)
      (λ x lt. let y = has (suc x) (omega arith) in (y.0, subst (λ (k : ℕ). At taken_out y.0 (refer j k)) (let e : g + suc x ≡ suc g + x = omega arith in e) y.1))
      (λ m r at is. let y = low m r at is in omega arith) in
      let a = one_taken j g first.0 first.1 in
      let b = count_adds (is_later j g) (is_ref j g) (is_later j (suc g)) taken_out (λ r. both_bits (eqb r.index j) g r.generation) in omega (arith, h, a, b)

-- how often the record of a cell was taken out
abbrev times_of : ℕ → TakenCell → ℕ
times_of first (untaken generation) = generation - first
times_of first (was_taken generation k) = generation - first + 1

module _ (setup : Setup) (takings : List TakenCell) (taken_out : List RefParts) (fits : TakenFits setup takings taken_out) (born : (i : ℕ) (cell : TakenCell) → At takings i cell → setup.first ≤ generation_of cell) where
  -- each of its names stands there
  is_among : (i : ℕ) (cell : TakenCell) → At takings i cell → (x : ℕ) → x < times_of setup.first cell → (m : ℕ) × At taken_out m (refer (i + 1) (setup.first + x))
  is_among i (untaken generation) at x lt = fits.older i (setup.first + x) (untaken generation) at (omega arith) (omega arith)
  is_among i (was_taken generation k) at x lt = dite (dec_le generation (setup.first + x))
      (λ ge. let b = born i (was_taken generation k) at in (k, subst (λ (g : ℕ). At taken_out k (refer (i + 1) g)) (let e : generation ≡ setup.first + x = omega arith in e) (fits.own i generation k at)))
      (λ less. fits.older i (setup.first + x) (was_taken generation k) at (omega arith) (omega arith))

  -- and no other does
  is_low : (cell : TakenCell) (g n : ℕ) → setup.first ≤ generation_of cell → IsTakenAs cell g n → g < setup.first + times_of setup.first cell
  is_low (untaken generation) g n le is = omega arith
  is_low (was_taken generation k) g n le is = ⊎_elim (λ lt. omega arith) (λ t. let e = t.0 in omega arith) is

  taken_low : (i : ℕ) (cell : TakenCell) → At takings i cell → (n : ℕ) (r : RefParts) → At taken_out n r → r.index ≡ i + 1 → r.generation < setup.first + times_of setup.first cell
  taken_low i cell at n r there is =
      let x = fits.each n r there in
      let same : x.2 ≡ cell = one_at takings i x.2 cell (subst (λ (k : ℕ). At takings k x.2) (let e : r.index - 1 ≡ i = omega arith in e) x.3) at in
      is_low cell r.generation n (born i cell at) (subst (λ c. IsTakenAs c r.generation n) same x.4)

  index_counted : (i : ℕ) (cell : TakenCell) → At takings i cell → count_by (λ (r : RefParts). eqb r.index (i + 1)) taken_out ≡ times_of setup.first cell
  index_counted i cell at =
      let alike = count_alike (λ (r : RefParts). eqb r.index (i + 1)) (is_later (i + 1) setup.first) taken_out (λ n r there. and_from_right (eqb r.index (i + 1)) (leb setup.first r.generation) (le-leb setup.first r.generation (fits.each n r there).1)) in
      alike ∙ run_counted taken_out fits.once (i + 1) (times_of setup.first cell) setup.first (is_among i cell at) (λ n r there is. taken_low i cell at n r there is)

  -- those of the records from an index on
  from_counted : (cells : List TakenCell) (k : ℕ) → ((i : ℕ) (cell : TakenCell) → At cells i cell → At takings (k + i) cell)
      → sum_by (times_of setup.first) cells + count_by (λ (r : RefParts). leb (k + length cells + 1) r.index) taken_out ≡ count_by (λ (r : RefParts). leb (k + 1) r.index) taken_out
  from_counted [] k are = let z = ap (λ (n : ℕ). count_by (λ (r : RefParts). leb n r.index) taken_out) (let e : k + length {A = TakenCell} [] + 1 ≡ k + 1 = omega arith in e) in omega (arith, z)
  from_counted (c ∷ cs) k are =
      let at : At takings k c = subst (λ (n : ℕ). At takings n c) (let e : k + 0 ≡ k = omega arith in e) (are zero c refl) in
      let h = from_counted cs (k + 1) (λ i cell there. subst (λ (n : ℕ). At takings n cell) (let e : k + suc i ≡ k + 1 + i = omega arith in e) (are (suc i) cell there)) in
      let a = index_counted k c at in
      let b = count_adds (λ (r : RefParts). leb (k + 1) r.index) (λ (r : RefParts). eqb r.index (k + 1)) (λ (r : RefParts). leb (suc (k + 1)) r.index) taken_out (λ r. step_bits (k + 1) r.index) in
      let d = sum_by-cons (times_of setup.first) c cs in
      let e = ap (λ (n : ℕ). count_by (λ (r : RefParts). leb n r.index) taken_out) (let z : k + 1 + length cs + 1 ≡ k + length (c ∷ cs) + 1 = omega arith in z) in
      let f = ap (λ (n : ℕ). count_by (λ (r : RefParts). leb n r.index) taken_out) (let z : suc (k + 1) ≡ k + 1 + 1 = omega arith in z) in omega (arith, h, a, b, d, e, f)

  pub takings_counted : length taken_out ≡ sum_by (times_of setup.first) takings
  takings_counted =
      let h = from_counted takings 0 (λ i cell at. subst (λ (n : ℕ). At takings n cell) (let e : i ≡ 0 + i = omega arith in e) at) in
      let all = first_ones (λ (r : RefParts). leb (0 + 1) r.index) taken_out (length taken_out) (omega arith) (λ i r at lt. le-leb (0 + 1) r.index (let z = (fits.each i r at).0 in omega arith)) (λ i r at ge. let z = below_at taken_out i r at in absurd (omega arith)) in
      let none = first_ones (λ (r : RefParts). leb (0 + length takings + 1) r.index) taken_out zero (omega arith) (λ i r at lt. absurd (omega arith))
      (λ i r at ge. false_from_ne_true (leb (0 + length takings + 1) r.index) (λ passes. let x = fits.each i r at in let z = below_at takings (r.index - 1) x.2 x.3 in let y = leb-true (0 + length takings + 1) r.index passes in omega arith)) in
      omega (arith, h, all, none)

-- what a record's place adds to how often it was taken out
abbrev unreused_bits : Place → ℕ
unreused_bits p = bit (is_shelved p) + bit (is_had is_taken_out p) + (bit (is_had is_limbo p) + bit (is_had is_free p) + bit (is_had is_spent p))

times_had : (first c : ℕ) (s : Standing) (r : Record) → times_of first (taken_had s r) ≡ generation_of (taken_had s r) - first + unreused_bits (Of c s)
times_had first c (Handing n) r = omega arith
times_had first c Own r = omega arith
times_had first c Spare r = omega arith
times_had first c TakenOut r = omega arith
times_had first c Limbo r = omega arith
times_had first c Free r = omega arith
times_had first c Spent r = omega arith

times_at : (first : ℕ) (p : Place) (r : Record) → times_of first (taken_at p r) ≡ generation_of (taken_at p r) - first + unreused_bits p
times_at first Undrawn r = omega arith
times_at first Root r = omega arith
times_at first Linked r = omega arith
times_at first (Shelved k) r = omega arith
times_at first (Of c s) r = times_had first c s r

times_counted : (setup : Setup) (l : List Record) → sum_by (times_of setup.first) (map taken_cell l) ≡ reused_in setup l + unreused_in l
times_counted setup [] = refl
times_counted setup (r ∷ rs) =
    let h = times_counted setup rs in
    let e = times_at setup.first r.place r in
    let a = sum_by-cons (times_of setup.first) (taken_cell r) (map taken_cell rs) in
    let b = sum_by-cons (λ (x : Record). generation_of (taken_cell x) - setup.first) r rs in
    let c = in_cons is_shelved r rs in
    let d = in_cons (is_had is_taken_out) r rs in
    let f = in_cons (is_had is_limbo) r rs in
    let g = in_cons (is_had is_free) r rs in
    let i = in_cons (is_had is_spent) r rs in
    omega (arith, h, e, a, b, c, d, f, g, i)

module _ (setup : Setup) where
  -- a record has had its first generation once it was drawn, and its cell says the next one before
  born_had : (s : Standing) (r : Record) → setup.first ≤ r.generation → setup.first ≤ generation_of (taken_had s r)
  born_had (Handing n) r le = le
  born_had Own r le = le
  born_had Spare r le = le
  born_had TakenOut r le = le
  born_had Limbo r le = le
  born_had Free r le = le
  born_had Spent r le = le

  born_at : (i : ℕ) (r : Record) (p : Place) → r.place ≡ p → IsSound setup i r → setup.first ≤ generation_of (taken_at p r)
  born_at i r Undrawn e s = let u = s.unborn e in omega (arith, u)
  born_at i r Root e s = s.born (λ q. let z : Root ≡ Undrawn = sym e ∙ q in cc)
  born_at i r Linked e s = s.born (λ q. let z : Linked ≡ Undrawn = sym e ∙ q in cc)
  born_at i r (Shelved k) e s = s.born (λ q. let z : Shelved k ≡ Undrawn = sym e ∙ q in cc)
  born_at i r (Of c t) e s = born_had t r (s.born (λ q. let z : Of c t ≡ Undrawn = sym e ∙ q in cc))

  pub taken_out_counted : (records : List Record) (taken_out : List RefParts) → ((i : ℕ) (r : Record) → At records i r → IsSound setup i r) → TakenFits setup (map taken_cell records) taken_out → length taken_out ≡ reused_in setup records + unreused_in records
  taken_out_counted records taken_out sound fits =
      takings_counted setup (map taken_cell records) taken_out fits (λ i cell at. let x = map_at taken_cell records i cell at in subst (λ c. setup.first ≤ generation_of c) x.2 (born_at i x.0 x.0.place refl (sound i x.0 x.1)))
      ∙ times_counted setup records
