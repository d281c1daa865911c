-- One element of a list is put in, and what holds place by place stays.
use Rattle.std.proofs.Common.{◌≢◌, ℕ, ◌<◌, List, length, length-set, get_or, set, sym, ◌∙◌, subst, ⊎_elim}
use Rattle.std.proofs.lemmas.Bool.Decides.{eqb_tells}
use Rattle.std.proofs.lemmas.List.{get_or-set_same, get_or-set_other}
use Rattle.set_runs.specs.Playing.{AtEach}

module _ {X : Type 0} where
  -- what holds of each element holds of each when one is another for which it holds
  pub each_set : (P : ℕ → X → Type 0) (ys : List X) (n : ℕ) (y d : X) → n < length ys → P n y → ((i : ℕ) → i < length ys → i ≢ n → P i (get_or ys i d)) → (i : ℕ) → i < length ys → P i (get_or (set ys n y) i d)
  each_set P ys n y d within new old i there =
      ⊎_elim (λ e. subst (λ k. P k (get_or (set ys n y) k d)) (sym e.1) (subst (P n) (sym (get_or-set_same ys n y d within)) new)) (λ e. subst (P i) (sym (get_or-set_other ys n i y d e.1)) (old i there e.1)) (eqb_tells i n)

  pub at_each_set : (R : ℕ → X → X → Type 0) (xs ys : List X) (n : ℕ) (y : X) → AtEach R xs ys → n < length xs → ((d : X) → R n (get_or xs n d) y) → AtEach R xs (set ys n y)
  at_each_set R xs ys n y h within new = record {
    same_length = length-set ys n y ∙ h.same_length;
    each = λ i d there. each_set (λ k. R k (get_or xs k d)) ys n y d (subst (λ l. n < l) (sym h.same_length) within) (new d) (λ k inside other. h.each k d (subst (λ l. k < l) h.same_length inside)) i (subst (λ l. i < l) (sym h.same_length) there);
  }
