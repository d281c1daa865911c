-- One interval more: whether it meets the life, or those behind it do.
use Rattle.std.proofs.Common.{◌≡◌, ◌≢◌, ℕ, ◌-◌, ◌≤◌, List, [], ◌∷◌, length, get_or, take, drop, Bool, true, false, cond, eqb, ltb, refl, ap, ◌∙◌, arith}
use Rattle.std.proofs.Math.Seq.{take-length}
use Rattle.std.proofs.lemmas.Bool.{eqb-false, ltb-false}
use Rattle.ibr_facts.specs.Keeping.{is_met}

-- two ends at the front that don't meet it
passed_by : (l u : ℕ) (rest : List ℕ) (b s : ℕ) → ¬ ((l ≢ 0) × (l ≤ s) × (b ≤ u)) → is_met rest b s ≡ is_met (l ∷ (u ∷ rest)) b s
passed_by l u rest b s misses = by (eqb l 0) refl (ltb s l) refl (ltb u b) refl
  where
    by : (x : Bool) → eqb l 0 ≡ x → (y : Bool) → ltb s l ≡ y → (z : Bool) → ltb u b ≡ z → is_met rest b s ≡ cond x (is_met rest b s) (cond y (is_met rest b s) (cond z (is_met rest b s) true))
    by true e y f z g = refl
    by false e true f z g = refl
    by false e false f true g = refl
    by false e false f false g = absurd (misses (eqb-false l 0 e, (let a = ltb-false s l f in omega arith), (let a = ltb-false u b g in omega arith)))

pub passed : (ends : List ℕ) (b s : ℕ) → 2 ≤ length ends → ¬ ((get_or ends 0 0 ≢ 0) × (get_or ends 0 0 ≤ s) × (b ≤ get_or ends 1 0)) → is_met (take (length ends - 2) (drop 2 ends)) b s ≡ is_met ends b s
passed [] b s two misses = absurd (omega arith)
passed (l ∷ []) b s two misses = absurd (omega arith)
passed (l ∷ (u ∷ rest)) b s two misses = let n : length (l ∷ (u ∷ rest)) - 2 ≡ length rest = omega arith in
    ap (λ (k : ℕ). is_met (take k rest) b s) n ∙ ap (λ (r : List ℕ). is_met r b s) (take-length rest) ∙ passed_by l u rest b s misses
