-- A first record may be linked behind a root.
use Rattle.std.proofs.Common.{◌≡◌, ℕ, ◌<◌, ◌%◌, ◌^◌, List, drop, set, sym, ap, ◌∙◌, subst, refl, arith, Option, Some, None}
use Rattle.set_model.specs.declared.calls.Call.TheVariants.{Insert}
use Rattle.record_memory.specs.declared.books.Setup.{Setup}
use Rattle.record_memory.specs.declared.books.View.{View}
use Rattle.row_words.specs.Refs.{RefParts, LinkParts}
use Rattle.row_words.specs.Packing.{packed_number, packed_link, packed_key, packed_ref}
use Rattle.record_rule.specs.Facts.{Near, at_root}
use Rattle.record_rule.specs.HandingOut.{HasOwn, fresh_row}
use Rattle.record_rule.specs.Kinds.{stored}
use Rattle.record_rule.specs.Links.{IsNextOf, at_end}
use Rattle.record_rule.proofs.HandingOut.{own_after}
use Rattle.list_facts.specs.Steps.{MayPublish}

-- a row with this key that leads nowhere
abbrev key_row : ℕ → ℕ → List ℕ
key_row generation k = set (fresh_row generation 0) 4 (packed_number generation k)

abbrev empty : LinkParts
empty = record { flags = 0; target = None }

no_link : (generation : ℕ) → packed_number generation 0 ≡ packed_link generation empty
unfolding packed_number packed_link packed_ref
no_link generation = omega arith

key_word : (generation k : ℕ) → packed_number generation k ≡ packed_key generation 0 k
unfolding packed_number packed_key
key_word generation k = omega arith

may_publish : (setup : Setup) (generation k : ℕ) → setup.roots ≡ 1 → k < 2 ^ 40 → MayPublish 0 setup (at_root 0) 3 empty (drop 3 (key_row generation k)) None (Some (Insert k))
may_publish setup generation k one fits = record {
  field = refl;
  flags_are = refl;
  generation = generation;
  k = k;
  node = record {
    link_is = no_link generation;
    key_is = key_word generation k;
    key_fits = fits;
  };
  keyed = tt;
  above = omega arith;
  below = tt;
  home = (let e : 0 ≡ k % 1 = omega arith in e) ∙ ap (λ (n : ℕ). k % n) (sym one);
  decides = refl;
}

-- what the steps before have made of the own record
pub first_allowed : (setup : Setup) (l : LinkParts) → l ≡ empty → (v w : View) (r : RefParts) (k : ℕ) → HasOwn v r (fresh_row r.generation 0) → w ≡ stored v r.index 4 (packed_number r.generation k) → setup.roots ≡ 1 → k < 2 ^ 40
    → (row : List ℕ) × (next : Option Near) × HasOwn w r row × IsNextOf w l.target next × MayPublish 0 setup (at_root 0) 3 l (drop 3 row) next (Some (Insert k))
first_allowed setup l nowhere v w r k own is one fits = subst (λ (z : LinkParts). (row : List ℕ) × (next : Option Near) × HasOwn w r row × IsNextOf w z.target next × MayPublish 0 setup (at_root 0) 3 z (drop 3 row) next (Some (Insert k))) (sym nowhere) (
  key_row r.generation k,
  None,
  subst (λ (x : View). HasOwn x r (key_row r.generation k)) (sym is) (own_after v r (fresh_row r.generation 0) 4 (packed_number r.generation k) own),
  at_end,
  may_publish setup r.generation k one fits,
)
