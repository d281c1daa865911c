-- A step that the rule allows.
use Rattle.std.proofs.Common.{◌≡◌, ℕ, Bool, true, false, cond, eqb, refl, subst}
use prog.Atomic.{either}
use Rattle.atomic_table.specs.Table.{State, Me, Allows, keeps}
use Rattle.record_memory.specs.declared.books.View.{View}
use Rattle.record_rule.specs.Kinds.{Lawful}

-- the two ways to choose between two numbers are one
pub either_is : (b : Bool) (x y : ℕ) → cond b x y ≡ either b x y
either_is true x y = refl
either_is false x y = refl

module _ (holds : State (Unit {0}) View → Type 0) (slots id : ℕ) (me : Me (Unit {0}) View) (word : ℕ) where
  -- a step of any kind
  pub lawful : (f : ℕ → ℕ) (told : ℕ → View → Type 0) → Lawful holds id me.0 word f told → Allows holds slots id me word f (λ n w. told n w.0 × (w.1 ≡ me.1))
  lawful f told may s u homes at _ = let x = may s u at in (x.0, keeps, tt, x.1, (x.2, refl))

  -- an exchange
  pub lawful_exchange : (old new : ℕ) (told : ℕ → View → Type 0) → Lawful holds id me.0 word (λ n. cond (eqb n old) new n) told → Allows holds slots id me word (λ n. either (eqb n old) new n) (λ n w. told n w.0 × (w.1 ≡ me.1))
  lawful_exchange old new told may = let f : ℕ → ℕ = λ n. cond (eqb n old) new n in let g : ℕ → ℕ = λ n. either (eqb n old) new n in let e : f ≡ g = λ k n. either_is (eqb n old) new n k in
      subst (λ (h : ℕ → ℕ). Allows holds slots id me word h (λ n w. told n w.0 × (w.1 ≡ me.1))) e (lawful f told may)

  -- a store, which doesn't say what it found
  pub lawful_store : (value : ℕ) (told : ℕ → View → Type 0) → Lawful holds id me.0 word (λ _. value) told → Allows holds slots id me word (λ _. value) (λ _ w. (found : ℕ) × (told found w.0 × (w.1 ≡ me.1)))
  lawful_store value told may s u homes at _ = let x = may s u at in (x.0, keeps, tt, x.1, (_, (x.2, refl)))
