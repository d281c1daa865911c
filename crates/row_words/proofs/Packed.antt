-- A packed word fits 64 bits, reading it gives back what was packed, and words that are equal were
-- packed from the same.
use Rattle.std.proofs.Common.{◌≡◌, ℕ, ◌+◌, ◌*◌, ◌/◌, ◌%◌, ◌^◌, ◌<◌, false, Option, Some, None, refl, sym, ap, inl, inr, ◌⊎◌, ◌∙◌, arith, eqb}
use Rattle.std.proofs.lemmas.Bool.Decides.{nat_tests}
use Rattle.row_words.specs.Refs.{RefParts, LinkParts, IsRef, refer}
use Rattle.row_words.specs.Packing.{packed_ref, ref_in, packed_link, link_in, packed_key, key_in, kind_in, packed_number, number_in, own_in, IsTarget, IsLink, IsPackedRef, IsPackedLink}

pub packed_ref_fits : (target : Option RefParts) → IsTarget target → packed_ref target < 2 ^ 40
unfolding packed_ref
packed_ref_fits None h = omega arith
packed_ref_fits (Some r) h = omega (arith, h.index, h.generation)

pub ref_in-packed_ref : (target : Option RefParts) → IsTarget target → ref_in (packed_ref target) ≡ target
unfolding packed_ref ref_in
ref_in-packed_ref None h = refl
ref_in-packed_ref (Some r) h =
    let low : (r.generation * 2 ^ 20 + r.index) % 2 ^ 20 ≡ r.index = omega (arith, h.index) in
    let high : (r.generation * 2 ^ 20 + r.index) / 2 ^ 20 ≡ r.generation = omega (arith, h.index) in
    let some : eqb (r.generation * 2 ^ 20 + r.index) 0 ≡ false = grind (arith, nat_tests, h.index) in
    rw (some, low, high) refl

pub own_in-packed_link : (own : ℕ) (link : LinkParts) → IsLink link → own_in (packed_link own link) ≡ own
unfolding packed_link own_in
own_in-packed_link own link h = omega (arith, h.flags, packed_ref_fits link.target h.target)

pub link_in-packed_link : (own : ℕ) (link : LinkParts) → IsLink link → link_in (packed_link own link) ≡ link
unfolding packed_link link_in
link_in-packed_link own link h =
    let t = packed_ref link.target in
    let b : t < 2 ^ 40 = packed_ref_fits link.target h.target in
    let low : (own * 2 ^ 44 + (link.flags * 2 ^ 40 + t)) % 2 ^ 40 ≡ t = omega arith in
    let high : (own * 2 ^ 44 + (link.flags * 2 ^ 40 + t)) / 2 ^ 40 % 2 ^ 4 ≡ link.flags = omega (arith, h.flags) in
    rw (low, high) (ap (λ (o : Option RefParts). record { flags = link.flags; target = o }) (ref_in-packed_ref link.target h.target))

pub packed_link_fits : (own : ℕ) (link : LinkParts) → own < 2 ^ 20 → IsLink link → packed_link own link < 2 ^ 64
unfolding packed_link
packed_link_fits own link o h = omega (arith, h.flags, packed_ref_fits link.target h.target)

pub packed_link_same : (a b : ℕ) (l m : LinkParts) → IsLink l → IsLink m → packed_link a l ≡ packed_link b m → (a ≡ b) × (l ≡ m)
packed_link_same a b l m hl hm e =
    (sym (own_in-packed_link a l hl) ∙ ap own_in e ∙ own_in-packed_link b m hm, sym (link_in-packed_link a l hl) ∙ ap link_in e ∙ link_in-packed_link b m hm)

pub packed_ref_same : (s t : Option RefParts) → IsTarget s → IsTarget t → packed_ref s ≡ packed_ref t → s ≡ t
packed_ref_same s t hs ht e = sym (ref_in-packed_ref s hs) ∙ ap ref_in e ∙ ref_in-packed_ref t ht

pub own_in-packed_key : (own kind key : ℕ) → kind < 2 ^ 4 → key < 2 ^ 40 → own_in (packed_key own kind key) ≡ own
unfolding packed_key own_in
own_in-packed_key own kind key hk h = omega arith

pub kind_in-packed_key : (own kind key : ℕ) → kind < 2 ^ 4 → key < 2 ^ 40 → kind_in (packed_key own kind key) ≡ kind
unfolding packed_key kind_in
kind_in-packed_key own kind key hk h = omega arith

pub key_in-packed_key : (own kind key : ℕ) → key < 2 ^ 40 → key_in (packed_key own kind key) ≡ key
unfolding packed_key key_in
key_in-packed_key own kind key h = omega arith

pub packed_key_fits : (own kind key : ℕ) → own < 2 ^ 20 → kind < 2 ^ 4 → key < 2 ^ 40 → packed_key own kind key < 2 ^ 64
unfolding packed_key
packed_key_fits own kind key o hk h = omega arith

pub own_in-packed_number : (own number : ℕ) → number < 2 ^ 44 → own_in (packed_number own number) ≡ own
unfolding packed_number own_in
own_in-packed_number own number h = omega arith

pub number_in-packed_number : (own number : ℕ) → number < 2 ^ 44 → number_in (packed_number own number) ≡ number
unfolding packed_number number_in
number_in-packed_number own number h = omega arith

pub packed_number_fits : (own number : ℕ) → own < 2 ^ 20 → number < 2 ^ 44 → packed_number own number < 2 ^ 64
unfolding packed_number
packed_number_fits own number o h = omega arith

-- the ranges of a number that a reference was packed into: it is 0 where its upper part is
pub packed_ref_parts : (target : Option RefParts) → IsTarget target → ((packed_ref target ≡ 0) × (target ≡ None)) ⊎ ((0 < packed_ref target / 2 ^ 20) × (packed_ref target / 2 ^ 20 < 2 ^ 20) × (0 < packed_ref target % 2 ^ 20))
unfolding packed_ref
packed_ref_parts None h = inl (refl, refl)
packed_ref_parts (Some r) h =
    inr (omega (arith, h.index, h.generation), omega (arith, h.index, h.generation), omega (arith, h.index, h.generation))

pub ref_parts : (number : ℕ) → IsPackedRef number → (number ≡ 0) ⊎ ((0 < number / 2 ^ 20) × (number / 2 ^ 20 < 2 ^ 20) × (0 < number % 2 ^ 20))
ref_parts number p =
    elim (packed_ref_parts p.target p.in_range) [ inl e ↦ inl (p.packed ∙ e.0) | inr h ↦ inr (rw p.packed h) ]

pub ref_in_range : (number : ℕ) → IsPackedRef number → IsTarget (ref_in number)
ref_in_range number p =
    let same : ref_in number ≡ p.target = ap ref_in p.packed ∙ ref_in-packed_ref p.target p.in_range in
    rw same p.in_range

pub is_packed_ref : (number : ℕ) (target : Option RefParts) → IsTarget target → number ≡ packed_ref target → IsPackedRef number
is_packed_ref number target h e = record { target = target; in_range = h; packed = e }

pub is_packed_link : (word own : ℕ) (link : LinkParts) → IsLink link → word ≡ packed_link own link → IsPackedLink word
is_packed_link word own link h e = record { own = own; link = link; in_range = h; packed = e }

-- the lower part of a link's word
pub packed_link_low : (word : ℕ) (p : IsPackedLink word) → word % 2 ^ 40 ≡ packed_ref p.link.target
unfolding packed_link
packed_link_low word p =
    let fits = packed_ref_fits p.link.target p.in_range.target in
    omega (arith, p.packed, fits)

-- what is read from a number that a reference was packed into
pub ref_in_none : (number : ℕ) → IsPackedRef number → (number / 2 ^ 20 ≡ 0) ⊎ (1048575 < number / 2 ^ 20) → ref_in number ≡ None
unfolding ref_in
ref_in_none number p h =
    elim (ref_parts number p) [ inl e ↦ rw e refl | inr parts ↦ absurd (omega (arith, h, parts)) ]

pub ref_in_some : (number index generation : ℕ) → IsPackedRef number → index ≡ number % 2 ^ 20 → generation ≡ number / 2 ^ 20 → 0 < generation → Some (refer index generation) ≡ ref_in number
unfolding ref_in
ref_in_some number index generation p ei eg h =
    let some : eqb number 0 ≡ false = grind (arith, nat_tests) in
    rw (ei, eg, some) refl

pub ref_some_in_range : (number index generation : ℕ) → IsPackedRef number → index ≡ number % 2 ^ 20 → generation ≡ number / 2 ^ 20 → 0 < generation → IsRef (refer index generation)
ref_some_in_range number index generation p ei eg h =
    elim (ref_parts number p) [
      | inl e ↦ absurd (omega arith)
      | inr parts ↦ record { index = (omega (arith, parts), omega (arith, parts)); generation = (h, omega (arith, parts)) }
    ]

-- the link in a packed word, by its parts
pub link_target_packed : (word : ℕ) → IsPackedLink word → IsPackedRef (word % 2 ^ 40)
link_target_packed word p = record { target = p.link.target; in_range = p.in_range.target; packed = packed_link_low word p }

-- the number of a packed reference, or a word of a packed link, is what its reading packs to
pub ref_is_packed : (number : ℕ) → IsPackedRef number → packed_ref (ref_in number) ≡ number
ref_is_packed number p = ap (λ n. packed_ref (ref_in n)) p.packed ∙ ap packed_ref (ref_in-packed_ref p.target p.in_range) ∙ sym p.packed

pub link_is_packed : (word : ℕ) → IsPackedLink word → packed_link (own_in word) (link_in word) ≡ word
link_is_packed word p =
    let own = own_in-packed_link p.own p.link p.in_range in
    let link = link_in-packed_link p.own p.link p.in_range in
    rw p.packed (rw (own, link) refl)

pub packed_key_same : (a b k l x y : ℕ) → k < 2 ^ 4 → l < 2 ^ 4 → x < 2 ^ 40 → y < 2 ^ 40 → packed_key a k x ≡ packed_key b l y → (a ≡ b) × (k ≡ l) × (x ≡ y)
unfolding packed_key
packed_key_same a b k l x y hk hl hx hy e = (omega arith, omega arith, omega arith)

pub packed_number_same : (a b x y : ℕ) → x < 2 ^ 44 → y < 2 ^ 44 → packed_number a x ≡ packed_number b y → (a ≡ b) × (x ≡ y)
unfolding packed_number
packed_number_same a b x y hx hy e = (omega arith, omega arith)
