-- Numbers that words write.
use Rattle.std.proofs.Common.{◌≡◌, ◌≢◌, ℕ, ◌^◌, ◌<◌, ◌≤◌, ◌⊎◌, inl, inr, List, subst, sym, arith}
use Rattle.std.specs.Fmt.{decimal}
use Rattle.text_lines.specs.Numbers.{IsNumber, Writes}
use Rattle.text_lines.specs.declared.numbers.Number.{Number}
use Rattle.text_lines.specs.declared.numbers.Number.TheVariants.{Value, TooLarge, NoNumber}
use Rattle.text_lines.proofs.NumberLemmas.{IsNumber-decimal, one_number}

module _ (bytes : List ℕ) (most : ℕ) (fits : most < 2 ^ 64) where
  numbered : (n : ℕ) → n ≤ most → bytes ≡ decimal n → IsNumber bytes n
  numbered n few is = subst (λ (text : List ℕ). IsNumber text n) (sym is) (IsNumber-decimal n (omega arith))

  pub value_is : (value n : ℕ) → Writes bytes most (Value value) → n ≤ most → bytes ≡ decimal n → value ≡ n
  value_is value n writes few is = one_number bytes value n writes.0 (numbered n few is)

  not_large : (n : ℕ) → Writes bytes most TooLarge → n ≤ most → bytes ≢ decimal n
  not_large n writes few is = let same = one_number bytes writes.0 n writes.1 (numbered n few is) in omega (arith, writes.2)

  not_none : (n : ℕ) → Writes bytes most NoNumber → n ≤ most → bytes ≢ decimal n
  not_none n writes few is = writes n (numbered n few is)

  -- what is no number up to `most` is none of these
  pub not_one : (r : Number) (n : ℕ) → Writes bytes most r → (r ≡ TooLarge) ⊎ (r ≡ NoNumber) → n ≤ most → bytes ≢ decimal n
  not_one (Value value) n writes other few is = elim other [ inl same ↦ cc | inr same ↦ cc ]
  not_one TooLarge n writes other few is = not_large n writes few is
  not_one NoNumber n writes other few is = not_none n writes few is
