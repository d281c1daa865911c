-- What each move of a record shows of its retirements, and which of its owner's stores is one.
use Rattle.std.proofs.Common.{◌≡◌, ◌≢◌, ℕ, zero, suc, ◌+◌, ◌-◌, ◌<◌, ◌≤◌, ◌⊎◌, inl, inr, List, [], ◌∷◌, set, Bool, true, false, cond, eqb, ltb, ◌&&◌, sym, refl, ap, ◌∙◌, subst, sum_by, arith, ⊎_elim, None}
use Rattle.std.proofs.lemmas.Bool.{lt-ltb, le-ltb, eq-eqb, ne_eqb, cases_lt, cases_eq, cases_order}
use mathlib.Core.Option.{some, some-injective, some-ne-none}
use lib.ListN.{get_elem?}
use Rattle.record_memory.specs.declared.steps.Step.{Step}
use Rattle.record_memory.specs.declared.steps.StepKind.TheVariants.{Store}
use Rattle.record_memory.specs.declared.steps.Word.TheVariants.{Field}
use Rattle.record_memory.specs.declared.books.Book.{Book}
use Rattle.record_memory.specs.declared.books.Place.TheVariants.{Of}
use Rattle.record_memory.specs.declared.books.Standing.TheVariants.{Free, Spent}
use Rattle.row_words.specs.Packing.{own_in}
use Rattle.record_rule.specs.Records.{Record}
use Rattle.record_rule.specs.Facts.{LimboRecord}
use Rattle.record_rule.specs.Counts.{retired_as}
use Rattle.record_rule.specs.Freeing.{freed_standing}
use Rattle.record_rule.specs.Retirements.{is_retirement, retirements, retired_at, retired_there, RetirementsFit, AreRetiredBetween}
use Rattle.record_rule.proofs.FreedCounts.{same_era}
use Rattle.record_rule.proofs.Freed.{goes_at, freed_record, freed_records, went_at}
use Rattle.record_rule.proofs.Retirements.{Grows, LeavesRetirements, ShowsSame, RetiresNone, kept_shows, stored_here, retires_one}

module _ (first g : ℕ) (r : Record) where
  -- before the first generation it was never retired
  retired_before : g < first → retired_at first g r ≡ 0
  retired_before lt = ap (λ (b : Bool). cond b 0 (cond (ltb g r.generation) 1 (cond (eqb g r.generation) (retired_as r.place) 0))) (lt-ltb g first lt)

  -- from that one on it was as its generation tells
  retired_from : first ≤ g → retired_at first g r ≡ cond (ltb g r.generation) 1 (cond (eqb g r.generation) (retired_as r.place) 0)
  retired_from le = ap (λ (b : Bool). cond b 0 (cond (ltb g r.generation) 1 (cond (eqb g r.generation) (retired_as r.place) 0))) (le-ltb g first le)

  -- at an older generation once
  retired_older : first ≤ g → g < r.generation → retired_at first g r ≡ 1
  retired_older le lt = retired_from le ∙ ap (λ (b : Bool). cond b 1 (cond (eqb g r.generation) (retired_as r.place) 0)) (lt-ltb g r.generation lt)

  -- at its own as its place tells
  retired_own : first ≤ g → g ≡ r.generation → retired_at first g r ≡ retired_as r.place
  retired_own le is = retired_from le ∙ ap (λ (b : Bool). cond b 1 (cond (eqb g r.generation) (retired_as r.place) 0)) (le-ltb g r.generation (omega arith))
      ∙ ap (λ (b : Bool). cond b (retired_as r.place) 0) (eq-eqb g r.generation is)

  -- and at a later one never
  retired_later : r.generation < g → retired_at first g r ≡ 0
  retired_later lt = ⊎_elim retired_before (λ le. retired_from le ∙ ap (λ (b : Bool). cond b 1 (cond (eqb g r.generation) (retired_as r.place) 0)) (le-ltb g r.generation (omega arith))
      ∙ ap (λ (b : Bool). cond b (retired_as r.place) 0) (ne_eqb g r.generation (λ e. omega arith))) (cases_lt g first)

  -- so never, where its lives all are still to come
  pub never_retired : r.generation ≤ first → retired_as r.place ≡ 0 → retired_at first g r ≡ 0
  never_retired young now = by (cases_lt g first) (cases_order g r.generation)
    where
      by : (g < first) ⊎ (first ≤ g) → (g ≡ r.generation) ⊎ ((g < r.generation) ⊎ (r.generation < g)) → retired_at first g r ≡ 0
      by (inl low) _ = retired_before low
      by (inr from) (inl is) = retired_own from is ∙ now
      by (inr from) (inr (inl lt)) = absurd (omega arith)
      by (inr from) (inr (inr gt)) = retired_later gt

module _ (first : ℕ) (r r' : Record) where
  -- a record that is handed out again was retired at the generation before
  pub renewed_shows : first ≤ r.generation → r'.generation ≡ r.generation + 1 → retired_as r.place ≡ 1 → retired_as r'.place ≡ 0 → (g : ℕ) → retired_at first g r' ≡ retired_at first g r
  renewed_shows born next was now g = by (cases_lt g first) (cases_order g r.generation) (cases_order g r'.generation)
    where
      by : (g < first) ⊎ (first ≤ g) → (g ≡ r.generation) ⊎ ((g < r.generation) ⊎ (r.generation < g)) → (g ≡ r'.generation) ⊎ ((g < r'.generation) ⊎ (r'.generation < g)) → retired_at first g r' ≡ retired_at first g r
      by (inl low) _ _ = retired_before first g r' low ∙ sym (retired_before first g r low)
      by (inr from) (inl is) _ = retired_older first g r' from (omega arith) ∙ sym (retired_own first g r from is ∙ was)
      by (inr from) (inr (inl lt)) _ = retired_older first g r' from (omega arith) ∙ sym (retired_older first g r from lt)
      by (inr from) (inr (inr gt)) (inl is) = retired_own first g r' from is ∙ now ∙ sym (retired_later first g r gt)
      by (inr from) (inr (inr gt)) (inr (inl lt)) = absurd (omega arith)
      by (inr from) (inr (inr gt)) (inr (inr high)) = retired_later first g r' high ∙ sym (retired_later first g r gt)

  -- one that is drawn never was
  pub drawn_shows : r.generation + 1 ≡ first → r'.generation ≡ first → retired_as r'.place ≡ 0 → (g : ℕ) → retired_at first g r' ≡ retired_at first g r
  drawn_shows unborn born now g = by (cases_lt g first) (cases_order g first)
    where
      by : (g < first) ⊎ (first ≤ g) → (g ≡ first) ⊎ ((g < first) ⊎ (first < g)) → retired_at first g r' ≡ retired_at first g r
      by (inl low) _ = retired_before first g r' low ∙ sym (retired_before first g r low)
      by (inr from) (inl is) = retired_own first g r' from (is ∙ sym born) ∙ now ∙ sym (retired_later first g r (omega arith))
      by (inr from) (inr (inl lt)) = absurd (omega arith)
      by (inr from) (inr (inr gt)) = retired_later first g r' (omega arith) ∙ sym (retired_later first g r (omega arith))

  -- and one that is retired is so once more at its generation
  pub retired_shows : first ≤ r.generation → r'.generation ≡ r.generation → retired_as r.place ≡ 0 → retired_as r'.place ≡ 1 → (g : ℕ) → retired_at first g r' ≡ retired_at first g r + cond (eqb r.generation g) 1 0
  retired_shows born same was now g = by (cases_lt g first) (cases_order g r.generation)
    where
      one_of : (b : Bool) → eqb r.generation g ≡ b → cond {A = ℕ} (eqb r.generation g) 1 0 ≡ cond b 1 0
      one_of b e = ap (λ (z : Bool). cond {A = ℕ} z 1 0) e

      by : (g < first) ⊎ (first ≤ g) → (g ≡ r.generation) ⊎ ((g < r.generation) ⊎ (r.generation < g)) → retired_at first g r' ≡ retired_at first g r + cond (eqb r.generation g) 1 0
      by (inl low) _ = let a = retired_before first g r' low in let b = retired_before first g r low in let c = one_of false (ne_eqb r.generation g (λ e. omega arith)) in omega arith
      by (inr from) (inl is) = let a = retired_own first g r' from (is ∙ sym same) in let b = retired_own first g r from is in let c = one_of true (eq-eqb r.generation g (sym is)) in omega arith
      by (inr from) (inr (inl lt)) = let a = retired_older first g r' from (omega arith) in let b = retired_older first g r from lt in let c = one_of false (ne_eqb r.generation g (λ e. omega arith)) in omega arith
      by (inr from) (inr (inr gt)) = let a = retired_later first g r' (omega arith) in let b = retired_later first g r gt in let c = one_of false (ne_eqb r.generation g (λ e. omega arith)) in omega arith

and_false : (b : Bool) → (b && false) ≡ false
and_false true = refl
and_false false = refl

-- records that left limbo
module _ (may : LimboRecord → Bool) (d first : ℕ) where
  freed_one : (i g : ℕ) (r : Record) (b : Bool) → goes_at may d i r.place r ≡ b → retired_at first g (cond b (record r { place = Of d (freed_standing r.generation) }) r) ≡ retired_at first g r
  freed_one i g r false e = refl
  freed_one i g r true e = kept_shows first r (record r { place = Of d (freed_standing r.generation) }) refl (by (eqb r.generation 1048575) ∙ sym (ap retired_as (went_at may d i r.place r e).0)) g
    where
      by : (b : Bool) → retired_as (Of d (cond b Spent Free)) ≡ 1
      by true = refl
      by false = refl

  freed_from : (i : ℕ) (rs : List Record) (k g : ℕ) → retired_there first g (get_elem? (freed_records may d i rs) k) ≡ retired_there first g (get_elem? rs k)
  freed_from i [] k g = refl
  freed_from i (r ∷ rs) zero g = freed_one i g r (goes_at may d i r.place r) refl
  freed_from i (r ∷ rs) (suc k) g = freed_from (i + 1) rs k g

  freed_grows : (i : ℕ) (rs : List Record) → Grows rs (freed_records may d i rs)
  freed_grows i [] k x e = absurd (some-ne-none x (sym e))
  freed_grows i (r ∷ rs) zero x e = (freed_record may d i r, refl, let a = same_era may d i r in let b : r.generation ≡ x.generation = ap (λ (z : Record). z.generation) (some-injective r x e) in omega arith)
  freed_grows i (r ∷ rs) (suc k) x e = freed_grows (i + 1) rs k x e

  pub freed_shows : (rs : List Record) → ShowsSame first rs (freed_records may d 0 rs)
  freed_shows rs = record { shows = freed_from 0 rs; grows = freed_grows 0 rs }

module _ (i f : ℕ) (t : Step) (kind : t.kind ≡ Store) (on : t.word ≡ Field i f) (alone : t.held ≡ None) where
  -- which stores in a record's words retire it
  store_is : (j g : ℕ) → is_retirement j g t ≡ (eqb i j && eqb f 2) && (eqb (own_in t.found) g && eqb (own_in t.left) g)
  store_is j g k = is_retirement j g record t { kind = kind k; word = on k; held = alone k }

  -- none in another word of it
  pub beside_stamp : f ≢ 2 → RetiresNone t
  beside_stamp ne j g = store_is j g ∙ ap (λ (b : Bool). (eqb i j && b) && (eqb (own_in t.found) g && eqb (own_in t.left) g)) (ne_eqb f 2 ne) ∙ by (eqb i j)
    where
      by : (b : Bool) → ((b && false) && (eqb (own_in t.found) g && eqb (own_in t.left) g)) ≡ false
      by true = refl
      by false = refl

  -- nor one that changes the generation
  pub over_other : own_in t.found ≢ own_in t.left → RetiresNone t
  over_other ne j g = store_is j g ∙ by (eqb i j && eqb f 2) (cases_eq (own_in t.found) g) (cases_eq (own_in t.left) g)
    where
      by : (b : Bool) → ((own_in t.found ≡ g) ⊎ (own_in t.found ≢ g)) → ((own_in t.left ≡ g) ⊎ (own_in t.left ≢ g)) → (b && (eqb (own_in t.found) g && eqb (own_in t.left) g)) ≡ false
      by b (inl x) (inl y) = absurd (ne (x ∙ sym y))
      by b (inr x) _ = ap (λ (z : Bool). b && (z && eqb (own_in t.left) g)) (ne_eqb (own_in t.found) g x) ∙ and_false b
      by b (inl x) (inr y) = ap (λ (z : Bool). b && (eqb (own_in t.found) g && z)) (ne_eqb (own_in t.left) g y) ∙ ap (λ (z : Bool). b && z) (and_false (eqb (own_in t.found) g)) ∙ and_false b

  -- one in the stamp that keeps the generation does
  pub in_stamp : (first : ℕ) (records : List Record) (r r' : Record) → get_elem? records (i - 1) ≡ some r → 0 < i → f ≡ 2 → own_in t.found ≡ r.generation → own_in t.left ≡ r.generation
      → first ≤ r.generation → r'.generation ≡ r.generation → retired_as r.place ≡ 0 → retired_as r'.place ≡ 1 → LeavesRetirements first records (set records (i - 1) r') t
  in_stamp first records r r' there pos two found left born same was now = retires_one first records (i - 1) r r' there t (omega arith)
      (stored_here first records (i - 1) r r' there t i pos refl (λ j h e. let same : Field i f ≡ Field j h = sym on ∙ e in let z : i ≡ j = cc in z) (left ∙ sym same))
      (λ g. retired_shows first r r' born same was now g ∙ ap (λ (b : Bool). retired_at first g r + cond b 1 0) (sym (at_own g)))
      (λ j g ne. store_is (j + 1) g ∙ ap (λ (b : Bool). (b && eqb f 2) && (eqb (own_in t.found) g && eqb (own_in t.left) g)) (ne_eqb i (j + 1) (λ e. ne (omega arith))))
    where
      twice : (b : Bool) → (b && b) ≡ b
      twice true = refl
      twice false = refl

      at_own : (g : ℕ) → is_retirement (i - 1 + 1) g t ≡ eqb r.generation g
      at_own g = store_is (i - 1 + 1) g ∙ (λ k. (eq-eqb i (i - 1 + 1) (omega arith) k && eq-eqb f 2 two k) && (eqb (found k) g && eqb (left k) g)) ∙ twice (eqb r.generation g)

-- A record that was handed out again has a later generation than the one before, so just one step retired it at that
pub retired_between : (first : ℕ) (records : List Record) (books : List Book) → RetirementsFit first records books → AreRetiredBetween first books
retired_between first records books fits c b e n t at i g le again = let x = fits.stored c b e n t at i 2 again.kind again.word in let low = x.own in let next = again.left in let pos = x.some_index in
    subst (λ (j : ℕ). sum_by (retirements j g) books ≡ 1) (let z : i - 1 + 1 ≡ i = omega arith in z)
    (fits.each (i - 1) g ∙ ap (retired_there first g) x.there ∙ retired_older first g x.record_is le (omega arith))
