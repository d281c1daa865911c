-- Steps on words of no record: the word of an announcement by where it lies, a store in an own one, and an exchange of the epoch.
use Rattle.std.proofs.Common.{◌≡◌, ℕ, ◌+◌, ◌*◌, ◌-◌, ◌<◌, cond, eqb, ltb, Bool, true, false, refl, sym, ap, ◌∙◌, subst, arith}
use Rattle.std.specs.Prelude.{MatchResult, Result, Ok, Err}
use Rattle.std.proofs.lemmas.Bool.{eq-eqb, ne_eqb, lt-ltb, le-ltb}
use Rattle.record_memory.specs.declared.steps.Word.{Word}
use Rattle.record_memory.specs.declared.steps.Word.TheVariants.{Announced}
use Rattle.record_memory.specs.declared.steps.StepKind.TheVariants.{Exchange}
use Rattle.record_memory.specs.declared.books.View.{View}
use Rattle.record_memory.specs.Memory.{word_at}
use Rattle.record_rule.specs.Facts.{CoverFacts}
use Rattle.record_rule.specs.Kinds.{control_step, made_step}
use Rattle.record_rule.specs.ControlSteps.{StoredWord, StoredControl}
use Rattle.reclaim_api.specs.StepForms.{epoch_exchange}

passes : (b : Bool) (x y : Word) → b ≡ false → cond b x y ≡ y
passes b x y e = ap (λ (c : Bool). cond c x y) e

stops : (b : Bool) (x y : Word) → b ≡ true → cond b x y ≡ x
stops b x y e = ap (λ (c : Bool). cond c x y) e

pub announced_at : (n w j : ℕ) → w ≡ 20 + j → j < 4 * n → word_at n w ≡ Announced j
announced_at n w j is lt = passes (eqb w 0) _ _ (ne_eqb w 0 (λ e. omega arith)) ∙ passes (eqb w 1) _ _ (ne_eqb w 1 (λ e. omega arith)) ∙ passes (eqb w 2) _ _ (ne_eqb w 2 (λ e. omega arith)) ∙ passes (eqb w 3) _ _ (ne_eqb w 3 (λ e. omega arith))
    ∙ passes (ltb w 20) _ _ (le-ltb w 20 (omega arith)) ∙ stops (ltb w (20 + 4 * n)) _ _ (lt-ltb w (20 + 4 * n) (omega arith)) ∙ ap (λ (k : ℕ). Announced k) (omega arith)

-- a store in one of the caller's own four words
pub own_stored : (c : CoverFacts) (v w : View) (word k value : ℕ) → word ≡ 20 + (4 * v.own.caller + k) → v.own.caller < v.setup.callers → k < 4
    → (found : ℕ) × StoredControl c v (word_at v.setup.callers word) value found w → (found : ℕ) × StoredWord c v k value found w
own_stored c v w word k value is lt low told = subst (λ (j : ℕ). (found : ℕ) × StoredWord c v j value found w) (let e : 4 * v.own.caller + k - 4 * v.own.caller ≡ k = omega arith in e)
    (subst (λ (x : Word). (found : ℕ) × StoredControl c v x value found w) (announced_at v.setup.callers word (4 * v.own.caller + k) is (omega (arith, lt, low))) told)

-- an exchange of the epoch from e to e + 1, by what it found
pub epoch_tried : (v w : View) (e : ℕ) (r : Result (Unit {0}) ℕ)
    → MatchResult r (λ _. w ≡ made_step v (control_step v Exchange 1 e (e + 1))) (λ found. (found ≡ e → ⊥) × (w ≡ made_step v (control_step v Exchange 1 found found))) → (n : ℕ) × (w ≡ made_step v (epoch_exchange v.own e n))
epoch_tried v w e (Ok u) told = (e, told ∙ ap (λ (b : Bool). made_step v (control_step v Exchange 1 e (cond b (e + 1) e))) (sym (eq-eqb e e refl)))
epoch_tried v w e (Err n) told = (n, told.1 ∙ ap (λ (b : Bool). made_step v (control_step v Exchange 1 n (cond b (e + 1) n))) (sym (ne_eqb n e told.0)))
