-- Sums over what a caller knows of each record, and over the records of a list that differ.
use Rattle.std.proofs.Common.{◌≡◌, ◌≢◌, ℕ, zero, suc, ◌+◌, ◌-◌, ◌<◌, ◌≤◌, List, [], ◌∷◌, length, All, get_or, set, get_or-set_other, Option, None, sym, refl, ap, ◌∙◌, subst, arith}
use native.Mathlib.Decide.{ℕ_discrete}
use Rattle.std.specs.List.{AllPairs, Any}
use Rattle.std.proofs.lemmas.List.Elements.{All-head, All-tail}
use Rattle.record_memory.specs.declared.books.Share.{Share}
use Rattle.row_words.specs.Refs.{RefParts, IsRef}
use Rattle.limbo_bags.proofs.Counts.{AllPairs-head, AllPairs-tail}

-- a sum over the entries from the index i + 1 on
abbrev pub sum_at : (ℕ → Option Share → ℕ) → ℕ → List (Option Share) → ℕ
sum_at f i [] = 0
sum_at f i (x ∷ xs) = f i x + sum_at f (i + 1) xs

-- what is known of the record is counted so
abbrev pub one_at : (ℕ → Option Share → ℕ) → List (Option Share) → RefParts → ℕ
one_at f l r = f (r.index - 1) (get_or l (r.index - 1) None)

-- a sum over these records
abbrev pub sum_over : (ℕ → Option Share → ℕ) → List (Option Share) → List RefParts → ℕ
sum_over f l [] = 0
sum_over f l (r ∷ rs) = one_at f l r + sum_over f l rs

-- the first of records that differ stands apart from the others
apart_from : (r : RefParts) (rs : List RefParts) → AllPairs (λ a b. a.index ≢ b.index) (r ∷ rs) → All IsRef (r ∷ rs) → All (λ (q : RefParts). q.index - 1 ≢ r.index - 1) rs
apart_from r rs pairs refs k d b e = let apart = AllPairs-head (λ a c. a.index ≢ c.index) r rs pairs k d b in let mine = (All-head IsRef r rs refs).index.0 in let its = (All-tail IsRef r rs refs k d b).index.0 in apart (omega arith)

-- Equal sums of what is equal
pub sum_alike : (f g : ℕ → Option Share → ℕ) (l k : List (Option Share)) (i : ℕ) → ((j : ℕ) → f (i + j) (get_or l j None) ≡ g (i + j) (get_or k j None)) → ((j : ℕ) → f j None ≡ 0) → ((j : ℕ) → g j None ≡ 0) → sum_at f i l ≡ sum_at g i k
sum_alike f g [] [] i same f_none g_none = refl
sum_alike f g [] (y ∷ ys) i same f_none g_none = let a = same 0 in let b = f_none (i + 0) in let c = ap (λ (j : ℕ). g j y) (let e : i + 0 ≡ i = omega arith in e) in
    let h = sum_alike f g [] ys (i + 1) (λ j. f_none (i + 1 + j) ∙ sym (f_none (i + suc j)) ∙ same (suc j) ∙ ap (λ (z : ℕ). g z (get_or ys j None)) (let e : i + suc j ≡ i + 1 + j = omega arith in e)) f_none g_none in omega arith
sum_alike f g (x ∷ xs) [] i same f_none g_none = let a = same 0 in let b = g_none (i + 0) in let c = ap (λ (j : ℕ). f j x) (let e : i + 0 ≡ i = omega arith in e) in
    let h = sum_alike f g xs [] (i + 1) (λ j. ap (λ (z : ℕ). f z (get_or xs j None)) (let e : i + 1 + j ≡ i + suc j = omega arith in e) ∙ same (suc j) ∙ g_none (i + suc j) ∙ sym (g_none (i + 1 + j))) f_none g_none in omega arith
sum_alike f g (x ∷ xs) (y ∷ ys) i same f_none g_none = let a = same 0 in let b = ap (λ (j : ℕ). f j x) (let e : i + 0 ≡ i = omega arith in e) in let c = ap (λ (j : ℕ). g j y) (let e : i + 0 ≡ i = omega arith in e) in
    let h = sum_alike f g xs ys (i + 1) (λ j. let e : i + 1 + j ≡ i + suc j = omega arith in ap (λ (z : ℕ). f z (get_or xs j None)) e ∙ same (suc j) ∙ ap (λ (z : ℕ). g z (get_or ys j None)) (sym e)) f_none g_none in omega arith

-- A sum of sums
pub sum_both : (f g h : ℕ → Option Share → ℕ) → ((j : ℕ) (o : Option Share) → f j o ≡ g j o + h j o) → (i : ℕ) (l : List (Option Share)) → sum_at f i l ≡ sum_at g i l + sum_at h i l
sum_both f g h each i [] = refl
sum_both f g h each i (x ∷ xs) = let a = each i x in let b = sum_both f g h each (i + 1) xs in omega arith

-- A smaller sum
pub sum_less : (f g : ℕ → Option Share → ℕ) → ((j : ℕ) (o : Option Share) → g j o ≤ f j o) → (i : ℕ) (l : List (Option Share)) → sum_at g i l ≤ sum_at f i l
sum_less f g each i [] = omega arith
sum_less f g each i (x ∷ xs) = let a = each i x in let b = sum_less f g each (i + 1) xs in omega arith

module _ (f : ℕ → Option Share → ℕ) where
  -- One entry changes
  pub sum_set : (i k : ℕ) (l : List (Option Share)) (x : Option Share) → k < length l → sum_at f i (set l k x) + f (i + k) (get_or l k None) ≡ sum_at f i l + f (i + k) x
  sum_set i k [] x lt = absurd (omega arith)
  sum_set i zero (y ∷ ys) x lt = let e : i + 0 ≡ i = omega arith in let a = ap (λ (j : ℕ). f j y) e in let b = ap (λ (j : ℕ). f j x) e in omega arith
  sum_set i (suc k) (y ∷ ys) x lt = let h = sum_set (i + 1) k ys x (omega arith) in let e : i + suc k ≡ i + 1 + k = omega arith in let a = ap (λ (j : ℕ). f j (get_or ys k None)) e in let b = ap (λ (j : ℕ). f j x) e in omega arith

  -- each entry is no more than the sum
  pub one_below : (i k : ℕ) (l : List (Option Share)) → f (i + k) None ≡ 0 → f (i + k) (get_or l k None) ≤ sum_at f i l
  one_below i k [] none = omega arith
  one_below i zero (y ∷ ys) none = let a = ap (λ (j : ℕ). f j y) (let e : i + 0 ≡ i = omega arith in e) in omega arith
  one_below i (suc k) (y ∷ ys) none = let e : i + suc k ≡ i + 1 + k = omega arith in let h = one_below (i + 1) k ys (ap (λ (j : ℕ). f j None) (sym e) ∙ none) in let a = ap (λ (j : ℕ). f j (get_or ys k None)) e in omega arith

  module _ (none : (i : ℕ) → f i None ≡ 0) where
    -- a record that is forgotten counts no more
    pub sum_forgotten : (l : List (Option Share)) (k : ℕ) → sum_at f 0 (set l k None) + f k (get_or l k None) ≡ sum_at f 0 l
    sum_forgotten l k = by (ℕ_discrete (length l - k) 0)
      where
        outside : (l : List (Option Share)) (i j : ℕ) → length l ≤ j → (sum_at f i (set l j None) ≡ sum_at f i l) × (get_or l j None ≡ None)
        outside [] i j le = (refl, refl)
        outside (x ∷ xs) i zero le = absurd (omega arith)
        outside (x ∷ xs) i (suc j) le = let h = outside xs (i + 1) j (omega arith) in (ap (λ (n : ℕ). f i x + n) h.0, h.1)

        by : Dec (length l - k ≡ 0) → sum_at f 0 (set l k None) + f k (get_or l k None) ≡ sum_at f 0 l
        by (yes e) = let h = outside l 0 k (omega arith) in let a = ap (f k) h.1 in let b = none k in let c = h.0 in omega arith
        by (no ne) = let h = sum_set 0 k l None (omega arith) in let e : 0 + k ≡ k = omega arith in let a = ap (λ (j : ℕ). f j (get_or l k None)) e in let b = none (0 + k) in omega arith

    -- and others count as before
    pub over_apart : (l : List (Option Share)) (k : ℕ) (rs : List RefParts) → All (λ (r : RefParts). r.index - 1 ≢ k) rs → sum_over f (set l k None) rs ≡ sum_over f l rs
    over_apart l k [] apart = refl
    over_apart l k (r ∷ rs) apart = let a = ap (f (r.index - 1)) (get_or-set_other l k (r.index - 1) None None (All-head (λ (q : RefParts). q.index - 1 ≢ k) r rs apart)) in
        let b = over_apart l k rs (All-tail (λ (q : RefParts). q.index - 1 ≢ k) r rs apart) in omega arith

    -- Records that differ count no more than all
    pub over_below : (rs : List RefParts) (l : List (Option Share)) → AllPairs (λ a b. a.index ≢ b.index) rs → All IsRef rs → sum_over f l rs ≤ sum_at f 0 l
    over_below [] l pairs refs = omega arith
    over_below (r ∷ rs) l pairs refs = let a = sum_forgotten l (r.index - 1) in let b = over_below rs (set l (r.index - 1) None) (AllPairs-tail (λ a b. a.index ≢ b.index) r rs pairs) (All-tail IsRef r rs refs) in
        let c = over_apart l (r.index - 1) rs (apart_from r rs pairs refs) in omega arith

    -- where they are all that count, one that counts is one of them
    pub counts_in : (rs : List RefParts) (l : List (Option Share)) → AllPairs (λ a b. a.index ≢ b.index) rs → All IsRef rs → sum_over f l rs ≡ sum_at f 0 l → (k : ℕ) → 0 < f k (get_or l k None) → Any (λ (q : RefParts). q.index - 1 ≡ k) rs
    counts_in [] l pairs refs same k counts = let below = one_below 0 k l (none (0 + k)) in let e : 0 + k ≡ k = omega arith in let a = ap (λ (j : ℕ). f j (get_or l k None)) e in absurd (omega arith)
    counts_in (r ∷ rs) l pairs refs same k counts = by (ℕ_discrete (r.index - 1) k)
        (λ ne. let a = sum_forgotten l (r.index - 1) in let c = over_apart l (r.index - 1) rs (apart_from r rs pairs refs) in
        counts_in rs (set l (r.index - 1) None) (AllPairs-tail (λ a b. a.index ≢ b.index) r rs pairs) (All-tail IsRef r rs refs) (omega arith) k
        (subst (λ (o : Option Share). 0 < f k o) (sym (get_or-set_other l (r.index - 1) k None None (λ e. ne (sym e)))) counts))
      where
        by : Dec (r.index - 1 ≡ k) → (r.index - 1 ≢ k → Any (λ (q : RefParts). q.index - 1 ≡ k) rs) → Any (λ (q : RefParts). q.index - 1 ≡ k) (r ∷ rs)
        by (yes e) rest = (0, r, omega arith, refl, e)
        by (no ne) rest = let x = rest ne in (suc x.0, x.1, omega (arith, x.2), x.3, x.4)

-- Where some records are all that count, they are all of a smaller count, too
pub over_whole : (f g : ℕ → Option Share → ℕ) → ((i : ℕ) → f i None ≡ 0) → ((i : ℕ) (o : Option Share) → g i o ≤ f i o) → (rs : List RefParts) (l : List (Option Share)) → AllPairs (λ a b. a.index ≢ b.index) rs → All IsRef rs
    → sum_over f l rs ≡ sum_at f 0 l → sum_over g l rs ≡ sum_at g 0 l
over_whole f g none less [] l pairs refs same = let a = sum_less f g less 0 l in omega arith
over_whole f g none less (r ∷ rs) l pairs refs same = let apart = apart_from r rs pairs refs in let a = sum_forgotten f none l (r.index - 1) in let c = over_apart f none l (r.index - 1) rs apart in
    let x = sum_forgotten g none_less l (r.index - 1) in let y = over_apart g none_less l (r.index - 1) rs apart in
    let h = over_whole f g none less rs (set l (r.index - 1) None) (AllPairs-tail (λ a b. a.index ≢ b.index) r rs pairs) (All-tail IsRef r rs refs) (omega arith) in omega arith
  where
    none_less : (i : ℕ) → g i None ≡ 0
    none_less i = let a = less i None in let b = none i in omega arith
