-- What the two stores of an insertion make of an own record: a body with this key and this link, without flags.
use Rattle.std.proofs.Common.{◌≡◌, ℕ, List, [], ◌∷◌, length, drop, set, Option, sym, refl, ◌∙◌, subst, arith}
use Rattle.record_memory.specs.declared.books.View.{View}
use Rattle.row_words.specs.Refs.{RefParts}
use Rattle.row_words.specs.Packing.{packed_number, packed_link, packed_key, packed_ref}
use Rattle.record_rule.specs.Facts.{word_in}
use Rattle.record_rule.specs.HandingOut.{HasOwn, IsOwnOf}
use Rattle.record_rule.specs.Kinds.{stored}
use Rattle.record_rule.proofs.HandingOut.{own_after}

-- the words of a link without flags, and of a key
link_word : (generation : ℕ) (target : Option RefParts) → packed_number generation (packed_ref target) ≡ packed_link generation (record { flags = 0; target = target })
unfolding packed_number packed_link
link_word generation target = omega arith

key_word : (generation key : ℕ) → packed_number generation key ≡ packed_key generation 0 key
unfolding packed_number packed_key
key_word generation key = omega arith

-- a row of eight words in which these two were stored
filled : (row : List ℕ) (key link : ℕ) → length row ≡ 8 → (word_in (drop 3 (set (set row 4 key) 3 link)) 3 ≡ link) × (word_in (drop 3 (set (set row 4 key) 3 link)) 4 ≡ key)
filled [] key link e = absurd (omega arith)
filled (a ∷ []) key link e = absurd (omega arith)
filled (a ∷ b ∷ []) key link e = absurd (omega arith)
filled (a ∷ b ∷ c ∷ []) key link e = absurd (omega arith)
filled (a ∷ b ∷ c ∷ d ∷ []) key link e = absurd (omega arith)
filled (a ∷ b ∷ c ∷ d ∷ x ∷ row) key link e = (refl, refl)

-- u, v and w are what its caller knew before, between and after them
pub filled_record : (u v w : View) (own : RefParts) (key : ℕ) (target : Option RefParts) → IsOwnOf u own → v ≡ stored u own.index 4 (packed_number own.generation key) → w ≡ stored v own.index 3 (packed_number own.generation (packed_ref target))
    → (row : List ℕ) × HasOwn w own row × (word_in (drop 3 row) 3 ≡ packed_link own.generation (record { flags = 0; target = target })) × (word_in (drop 3 row) 4 ≡ packed_key own.generation 0 key)
filled_record u v w own key target has first second =
    let k : ℕ = packed_number own.generation key in let l : ℕ = packed_number own.generation (packed_ref target) in
    let key_stored : HasOwn v own (set has.0 4 k) = subst (λ (x : View). HasOwn x own (set has.0 4 k)) (sym first) (own_after u own has.0 4 k has.1) in
    let words = filled has.0 k l has.1.eight in (
      set (set has.0 4 k) 3 l,
      subst (λ (x : View). HasOwn x own (set (set has.0 4 k) 3 l)) (sym second) (own_after v own (set has.0 4 k) 3 l key_stored),
      words.0 ∙ link_word own.generation target,
      words.1 ∙ key_word own.generation key,
    )
