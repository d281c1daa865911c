-- Lists read by index.
use Rattle.std.proofs.Common.{◌++◌, ◌≤◌, replicate, ◌⊎◌, inl, inr, ◌+◌, Bool, true, false, cond, ◌≡◌, ◌≢◌, get_or-set_same, get_or-set_other, ℕ, zero, suc, ◌<◌, List, [], ◌∷◌, map, length, get_or, set, sym, refl, ap, ◌∙◌, subst, arith, ⊎_elim}
use Rattle.std.specs.List.{count_by}
use Rattle.std.proofs.lemmas.List.Sums.{sum_by-set}
use Rattle.std.proofs.lemmas.List.{length-replicate}
use mathlib.Core.Logic.{dite}
use native.Mathlib.Decide.{ℕ_discrete}
use mathlib.Core.Option.{some, some-injective, some-ne-none}
use lib.ListN.{get_elem?}
use Rattle.atomic_table.proofs.Lists.{at_set}

module _ {A : Type 0} where
  -- an entry is within the list
  pub below_at : (l : List A) (i : ℕ) (a : A) → get_elem? l i ≡ some a → i < length l
  below_at [] i a e = absurd (some-ne-none a (sym e))
  below_at (x ∷ xs) zero a e = omega arith
  below_at (x ∷ xs) (suc i) a e = let h = below_at xs i a e in omega arith

  -- there is an entry at each index within the list
  pub at_below : (l : List A) (i : ℕ) → i < length l → (a : A) × (get_elem? l i ≡ some a)
  at_below [] i h = absurd (omega arith)
  at_below (x ∷ xs) zero h = (x, refl)
  at_below (x ∷ xs) (suc i) h = at_below xs i (omega arith)

  -- the entry at an index is what is read there
  pub get_at : (l : List A) (i : ℕ) (a d : A) → get_elem? l i ≡ some a → get_or l i d ≡ a
  get_at [] i a d e = absurd (some-ne-none a (sym e))
  get_at (x ∷ xs) zero a d e = some-injective x a e
  get_at (x ∷ xs) (suc i) a d e = get_at xs i a d e

  -- one entry at an index
  pub one_at : (l : List A) (i : ℕ) (a b : A) → get_elem? l i ≡ some a → get_elem? l i ≡ some b → a ≡ b
  one_at l i a b p q = some-injective a b (sym p ∙ q)

  -- a fact of each entry and its index, after one was set
  pub each_set : (P : ℕ → A → Type 0) (l : List A) (i : ℕ) (a : A) → ((j : ℕ) (b : A) → get_elem? l j ≡ some b → P j b) → P i a → (j : ℕ) (b : A) → get_elem? (set l i a) j ≡ some b → P j b
  each_set P l i a each here j b e = ⊎_elim (λ t. subst (λ (z : ℕ). P z b) (sym t.0) (subst (P i) t.1 here)) (λ t. each j b t.1) (at_set l i j a b e)

  -- what is so of each entry, after one more of which it is so
  pub each_more : (P : A → Type 0) (l : List A) (a : A) → P a → ((n : ℕ) (b : A) → get_elem? l n ≡ some b → P b) → (n : ℕ) (b : A) → get_elem? (l ++ a ∷ []) n ≡ some b → P b
  each_more P [] a last h zero b e = subst P (some-injective a b e) last
  each_more P [] a last h (suc n) b e = absurd (some-ne-none b (sym e))
  each_more P (x ∷ xs) a last h zero b e = h 0 b e
  each_more P (x ∷ xs) a last h (suc n) b e = each_more P xs a last (λ i c d. h (suc i) c d) n b e

  -- a fact of the entry at an index, after one was set
  pub got_set : (P : A → Type 0) (l : List A) (i j : ℕ) (a d : A) → i < length l → (j ≡ i → P a) → (j ≢ i → P (get_or l j d)) → P (get_or (set l i a) j d)
  got_set P l i j a d within here else = dite (ℕ_discrete j i) (λ e. subst P (sym (ap (λ (k : ℕ). get_or (set l i a) k d) e ∙ get_or-set_same l i a d within)) (here e)) (λ ne. subst P (sym (get_or-set_other l i j a d ne)) (else ne))

  -- an entry of two lists, one after another
  pub at_append : (l k : List A) (p : ℕ) (a : A) → get_elem? (l ++ k) p ≡ some a → (get_elem? l p ≡ some a) ⊎ ((q : ℕ) × (p ≡ length l + q) × (get_elem? k q ≡ some a))
  at_append [] k p a e = inr (p, omega arith, e)
  at_append (x ∷ l) k zero a e = inl e
  at_append (x ∷ l) k (suc p) a e = ⊎_elim inl (λ t. inr (t.0, omega (arith, t.1), t.2)) (at_append l k p a e)

  -- each entry of a run is the one repeated
  pub at_replicate : (n i : ℕ) (a b : A) → get_elem? (replicate n a) i ≡ some b → (i < n) × (a ≡ b)
  at_replicate zero i a b e = absurd (some-ne-none b (sym e))
  at_replicate (suc n) zero a b e = (omega arith, some-injective a b e)
  at_replicate (suc n) (suc i) a b e = let h = at_replicate n i a b e in (omega (arith, h.0), h.1)

  -- which stands at each index
  pub replicate_at : (n i : ℕ) (a : A) → i < n → get_elem? (replicate n a) i ≡ some a
  replicate_at zero i a h = absurd (omega arith)
  replicate_at (suc n) zero a h = refl
  replicate_at (suc n) (suc i) a h = replicate_at n i a (omega arith)

  -- an entry of two runs
  pub at_runs : (n k i : ℕ) (a b x : A) → get_elem? (replicate n a ++ replicate k b) i ≡ some x → ((i < n) × (a ≡ x)) ⊎ ((n ≤ i) × (b ≡ x))
  at_runs n k i a b x e = ⊎_elim (λ p. inl (at_replicate n i a x p)) (λ q. inr (let l : length (replicate n a) ≡ n = length-replicate n a in omega (arith, q.1), (at_replicate k q.0 b x q.2).1)) (at_append (replicate n a) (replicate k b) i x e)

module _ {A B : Type 0} (f : A → B) where
  -- the entry that is set has the image of the one that was there
  pub map_set_same : (l : List A) (i : ℕ) (a b : A) → get_elem? l i ≡ some a → f b ≡ f a → map f (set l i b) ≡ map f l
  map_set_same [] i a b e h = refl
  map_set_same (x ∷ xs) zero a b e h = ap (λ (y : B). y ∷ map f xs) (h ∙ ap f (sym (some-injective x a e)))
  map_set_same (x ∷ xs) (suc i) a b e h = ap (λ (ys : List B). f x ∷ ys) (map_set_same xs i a b e h)

  -- an entry of the list of images is the image of an entry
  pub map_at : (l : List A) (i : ℕ) (b : B) → get_elem? (map f l) i ≡ some b → (a : A) × (get_elem? l i ≡ some a) × (f a ≡ b)
  map_at [] i b e = absurd (some-ne-none b (sym e))
  map_at (x ∷ xs) zero b e = (x, refl, some-injective (f x) b e)
  map_at (x ∷ xs) (suc i) b e = map_at xs i b e

module _ {A B : Type 0} where
  -- one entry many times, where each has its image
  pub map-replicate : (f : A → B) (n : ℕ) (a : A) → map f (replicate n a) ≡ replicate n (f a)
  map-replicate f zero a = refl
  map-replicate f (suc n) a = ap (λ (z : List B). f a ∷ z) (map-replicate f n a)

-- two sums that differ by one
one_more : (x y a b : ℕ) → x + a ≡ y + b → a ≡ 0 → b ≡ 1 → x ≡ y + 1
one_more x y a b e f g = omega arith

-- two sums of one number
same_sum : (x y a b : ℕ) → x + a ≡ y + b → b ≡ a → x ≡ y
same_sum x y a b e f = omega arith

-- one more entry counts, or one less
pub counts_more : {A : Type 0} (p : A → Bool) (l : List A) (i : ℕ) (x d : A) → i < length l → p (get_or l i d) ≡ false → p x ≡ true → count_by p (set l i x) ≡ count_by p l + 1
counts_more p l i x d lt was is = one_more _ _ _ _ (sum_by-set (λ y. cond (p y) 1 0) l i x d lt) (ap (λ b. cond b 1 0) was) (ap (λ b. cond b 1 0) is)

-- one entry less
pub counts_less : {A : Type 0} (p : A → Bool) (l : List A) (i : ℕ) (x d : A) → i < length l → p (get_or l i d) ≡ true → p x ≡ false → count_by p (set l i x) + 1 ≡ count_by p l
counts_less p l i x d lt was is = sym (one_more _ _ _ _ (sym (sum_by-set (λ y. cond (p y) 1 0) l i x d lt)) (ap (λ b. cond b 1 0) is) (ap (λ b. cond b 1 0) was))

-- as many count, where the entry counts as before
pub counts_same : {A : Type 0} (p : A → Bool) (l : List A) (i : ℕ) (x d : A) → i < length l → p x ≡ p (get_or l i d) → count_by p (set l i x) ≡ count_by p l
counts_same p l i x d lt is = let e = sum_by-set (λ y. cond (p y) 1 0) l i x d lt in let w : cond (p x) 1 0 ≡ cond (p (get_or l i d)) 1 0 = ap (λ b. cond b 1 0) is in same_sum _ _ _ _ e w
