-- The words of a body: what is read once its link was set, and which of them stand.
use Rattle.std.proofs.Common.{◌≡◌, ℕ, ◌+◌, ◌*◌, ◌/◌, ◌%◌, ◌^◌, List, length, get_or-set_same, get_or-set_other, suc-ne-zero, Bool, true, false, cond, eqb, inl, inr, sym, refl, ap, ◌∙◌, arith}
use Rattle.std.proofs.lemmas.Bool.Decides.{eqb_tells}
use Rattle.std.proofs.lemmas.Bool.{eq-eqb, ne_eqb}
use Rattle.row_words.specs.Refs.{LinkParts, AreFlags}
use Rattle.row_words.specs.Packing.{packed_ref, ref_in, packed_link, link_in, key_in, IsLink}
use Rattle.row_words.proofs.Packed.{link_in-packed_link}
use Rattle.record_rule.specs.Facts.{word_in, link_at, key_at, with_link, mark_bit, HasMark}
use Rattle.record_rule.specs.Laws.{marked_after}
use Rattle.list_facts.specs.Steps.{list_settled}

-- the link that was set is read back
pub link_with_link : (body : List ℕ) (f generation : ℕ) (l : LinkParts) → f ≡ 3 → length body ≡ 5 → IsLink l → link_at (with_link body f generation l) 3 ≡ l
link_with_link body f generation l field long in_range = rw field (ap link_in (get_or-set_same body 0 (packed_link generation l) 0 (omega arith)) ∙ link_in-packed_link generation l in_range)

-- the word of the key is another one
pub key_word_with_link : (body : List ℕ) (f generation : ℕ) (l : LinkParts) → f ≡ 3 → word_in (with_link body f generation l) 4 ≡ word_in body 4
key_word_with_link body f generation l field = rw field (get_or-set_other body 0 1 (packed_link generation l) 0 (suc-ne-zero 0))

-- so the key stays
pub key_with_link : (body : List ℕ) (f generation : ℕ) (l : LinkParts) → f ≡ 3 → key_at (with_link body f generation l) ≡ key_at body
key_with_link body f generation l field = ap key_in (key_word_with_link body f generation l field)

-- the number from which a reference was read is the one that it packs to
ref_again : (n : ℕ) → packed_ref (ref_in n) ≡ n
unfolding packed_ref ref_in
ref_again n = elim (eqb_tells n 0) [
  | inl e ↦ let is = e.0 in rw is (sym e.1)
  | inr e ↦ let is = e.0 in rw is (omega arith)
]

-- what is read of any word is packed and read again with other flags
pub link_again : (own word f : ℕ) → AreFlags f → link_in (packed_link own (record (link_in word) { flags = f })) ≡ record (link_in word) { flags = f }
unfolding packed_link link_in
link_again own word f h =
    let n : ℕ = word % 2 ^ 40 in
    let t : ℕ = packed_ref (ref_in n) in
    let same : t ≡ n = ref_again n in
    let low : (own * 2 ^ 44 + (f * 2 ^ 40 + t)) % 2 ^ 40 ≡ n = omega arith in
    let high : (own * 2 ^ 44 + (f * 2 ^ 40 + t)) / 2 ^ 40 % 2 ^ 4 ≡ f = omega arith in
    rw (low, high) refl

-- flags that say no mark
pub clear_flags : (l : LinkParts) (plain : ℕ) → plain % 2 ≡ 0 → l.flags ≡ plain → ¬ HasMark l
clear_flags l plain even e mark = let z : l.flags % 2 ≡ 1 = mark in let w : l.flags % 2 ≡ plain % 2 = ap (λ (k : ℕ). k % 2) e in omega arith

-- the position of a mark that is new
pub marked_new : (m updates : ℕ) (old new : LinkParts) → ¬ HasMark old → HasMark new → marked_after m old new updates ≡ updates + 1
marked_new m updates old new clear mark = let before : mark_bit old ≡ 0 = omega (arith, clear) in rw (eq-eqb (mark_bit old) 0 before, eq-eqb (mark_bit new) 1 mark) refl

-- a link without a mark doesn't stand
pub is_unsettled : (body : List ℕ) (f : ℕ) → f ≡ 3 → ¬ HasMark (link_at body 3) → list_settled f body ≡ false
is_unsettled body f field clear = rw field (ne_eqb (mark_bit (link_at body 3)) 1 clear)

-- by which word it is
settled_if : (p q r t : Bool) → r ≡ false → cond p true (cond q r false) ≡ true → cond p true (cond q t false) ≡ true
settled_if true q r t n h = refl
settled_if false true r t n h = let none : ⊥ = cc in absurd none
settled_if false false r t n h = h

-- so what stands there does so in any other body
pub stays_settled : (body body' : List ℕ) (g : ℕ) → ¬ HasMark (link_at body 3) → list_settled g body ≡ true → list_settled g body' ≡ true
stays_settled body body' g clear h = settled_if (eqb g 4) (eqb g 3) (eqb (mark_bit (link_at body 3)) 1) (eqb (mark_bit (link_at body' 3)) 1) (ne_eqb (mark_bit (link_at body 3)) 1 clear) h
