-- The records once those that a list names are on a shelf.
use Rattle.std.proofs.Common.{◌≡◌, ◌≢◌, ℕ, zero, suc, ◌+◌, ◌-◌, ◌<◌, List, [], ◌∷◌, map, Bool, true, false, cond, eqb, Option, sym, refl, ap, ◌∙◌, subst, arith}
use Rattle.std.proofs.lemmas.Bool.{eqb-true, eq-eqb}
use mathlib.Core.Option.{some, some-injective, some-ne-none}
use Rattle.record_memory.specs.declared.books.Standing.TheVariants.{Free}
use Rattle.record_memory.specs.declared.books.Place.{Place}
use Rattle.record_memory.specs.declared.books.Place.TheVariants.{Shelved, Of}
use Rattle.row_words.specs.Refs.{RefParts}
use Rattle.record_rule.specs.Records.{Record}
use Rattle.record_rule.specs.Facts.{At}
use Rattle.record_rule.specs.Shelves.{on, pool_cell, IsNamed}
use Rattle.record_rule.proofs.Lists.{map_at}
use Rattle.record_rule.proofs.OffShelf.{is_on, off_shelf, off_records}
use Rattle.record_rule.proofs.OnShelf.{shelved_cell}

-- whether one of these references is to the record with the index i + 1
abbrev pub is_named : ℕ → List RefParts → Bool
is_named i [] = false
is_named i (r ∷ rs) = cond (eqb r.index (i + 1)) true (is_named i rs)

named_true : (i : ℕ) (refs : List RefParts) → is_named i refs ≡ true → IsNamed i refs
named_true i [] h = let none : ⊥ = cc in absurd none
named_true i (r ∷ rs) h = by (eqb r.index (i + 1)) refl h (λ q. named_true i rs q)
  where
    by : (b : Bool) → eqb r.index (i + 1) ≡ b → cond b true (is_named i rs) ≡ true → (is_named i rs ≡ true → IsNamed i rs) → IsNamed i (r ∷ rs)
    by true e q rest = (0, r, refl, eqb-true r.index (i + 1) e)
    by false e q rest = let x = rest q in (suc x.0, x.1, x.2, x.3)

true_named : (i : ℕ) (refs : List RefParts) (n : ℕ) (r : RefParts) → At refs n r → r.index ≡ i + 1 → is_named i refs ≡ true
true_named i [] n r at e = absurd (some-ne-none r (sym at))
true_named i (q ∷ rs) zero r at e = ap (λ (b : Bool). cond b true (is_named i rs)) (eq-eqb q.index (i + 1) (ap (λ (z : RefParts). z.index) (some-injective q r at) ∙ e))
true_named i (q ∷ rs) (suc n) r at e = by (eqb q.index (i + 1)) (true_named i rs n r at e)
  where
    by : (b : Bool) → is_named i rs ≡ true → cond b true (is_named i rs) ≡ true
    by true h = refl
    by false h = h

abbrev pub put_record : ℕ → List RefParts → ℕ → Record → Record
put_record k refs i r = cond (is_named i refs) (record r { place = Shelved k }) r

abbrev pub put_records : ℕ → List RefParts → ℕ → List Record → List Record
put_records k refs i [] = []
put_records k refs i (r ∷ rs) = put_record k refs i r ∷ put_records k refs (i + 1) rs

module _ (c k : ℕ) (refs : List RefParts) where
  -- a record that was free of the caller, or wasn't on the shelf, is what it was once it came off it again
  put_back : (i : ℕ) (r : Record) → (IsNamed i refs → r.place ≡ Of c Free) → r.place ≢ Shelved k → off_shelf c k (put_record k refs i r) ≡ r
  put_back i r free other = by (is_named i refs) refl
    where
      stays : (p : Place) → p ≢ Shelved k → is_on k p ≡ false
      stays (Shelved j) ne = step (eqb j k) refl
        where
          step : (b : Bool) → eqb j k ≡ b → b ≡ false
          step true e = absurd (ne (ap (λ (z : ℕ). Shelved z) (eqb-true j k e)))
          step false e = refl
      stays p ne = refl

      by : (b : Bool) → is_named i refs ≡ b → off_shelf c k (cond b (record r { place = Shelved k }) r) ≡ r
      by true e = ap (λ (b : Bool). cond b (record r { place = Of c Free }) (record r { place = Shelved k })) (eq-eqb k k refl) ∙ ap (λ (p : Place). record r { place = p }) (sym (free (named_true i refs e)))
      by false e = ap (λ (b : Bool). cond b (record r { place = Of c Free }) r) (stays r.place other)

  -- so are all
  pub all_back : (i : ℕ) (l : List Record) → ((j : ℕ) (r : Record) → At l j r → IsNamed (i + j) refs → r.place ≡ Of c Free) → ((j : ℕ) (r : Record) → At l j r → r.place ≢ Shelved k) → off_records c k (put_records k refs i l) ≡ l
  all_back i [] free other = refl
  all_back i (r ∷ rs) free other = λ z. put_back i r (λ h. free 0 r refl (let e : i ≡ i + 0 = omega arith in subst (λ (x : ℕ). IsNamed x refs) e h)) (other 0 r refl) z
      ∷ all_back (i + 1) rs (λ j q at h. free (suc j) q at (let e : i + 1 + j ≡ i + suc j = omega arith in subst (λ (x : ℕ). IsNamed x refs) e h)) (λ j q at. other (suc j) q at) z

  -- a record of the list
  pub put_at : (i : ℕ) (l : List Record) (j : ℕ) (r : Record) → At l j r → At (put_records k refs i l) j (put_record k refs (i + j) r)
  put_at i [] j r at = absurd (some-ne-none r (sym at))
  put_at i (q ∷ rs) zero r at = ap some ((let e : i ≡ i + 0 = omega arith in ap (λ (z : ℕ). put_record k refs z q) e) ∙ ap (put_record k refs (i + 0)) (some-injective q r at))
  put_at i (q ∷ rs) (suc j) r at = put_at (i + 1) rs j r at ∙ ap some (let e : i + 1 + j ≡ i + suc j = omega arith in ap (λ (z : ℕ). put_record k refs z r) e)

  pub each_put : (i : ℕ) (l : List Record) (j : ℕ) (x : Record) → At (put_records k refs i l) j x → (r : Record) × At l j r × (put_record k refs (i + j) r ≡ x)
  each_put i [] j x at = absurd (some-ne-none x (sym at))
  each_put i (q ∷ rs) zero x at = (q, refl, (let e : i + 0 ≡ i = omega arith in ap (λ (z : ℕ). put_record k refs z q) e) ∙ some-injective (put_record k refs i q) x at)
  each_put i (q ∷ rs) (suc j) x at = let y = each_put (i + 1) rs j x at in (y.0, y.1, (let e : i + suc j ≡ i + 1 + j = omega arith in ap (λ (z : ℕ). put_record k refs z y.0) e) ∙ y.2)

  -- one that the list names is on the shelf
  pub put_named : (l : List Record) (n : ℕ) (r : RefParts) (node : Record) → At refs n r → 0 < r.index → At l (r.index - 1) node → At (put_records k refs 0 l) (r.index - 1) (record node { place = Shelved k })
  put_named l n r node named some_index at = put_at 0 l (r.index - 1) node at ∙ ap some (ap (λ (b : Bool). cond b (record node { place = Shelved k }) node) (true_named (0 + (r.index - 1)) refs n r named (omega arith)))

  -- and no other is, where none was
  pub put_only : (l : List Record) → ((j : ℕ) (r : Record) → At l j r → r.place ≢ Shelved k) → (i generation : ℕ) (next : Option RefParts) → At (map pool_cell (put_records k refs 0 l)) i (on k generation next) → IsNamed i refs
  put_only l other i generation next at = let x = map_at pool_cell (put_records k refs 0 l) i (on k generation next) at in let y = each_put 0 l i x.0 x.1 in
      by (is_named (0 + i) refs) refl y.0 y.1 (y.2) (shelved_cell k generation next x.0 x.2).place
    where
      by : (b : Bool) → is_named (0 + i) refs ≡ b → (r : Record) → At l i r → {x : Record} → cond b (record r { place = Shelved k }) r ≡ x → x.place ≡ Shelved k → IsNamed i refs
      by true e r at is on_shelf = let z : 0 + i ≡ i = omega arith in subst (λ (j : ℕ). IsNamed j refs) z (named_true (0 + i) refs e)
      by false e r at is on_shelf = absurd (other i r at (ap (λ (q : Record). q.place) is ∙ on_shelf))
