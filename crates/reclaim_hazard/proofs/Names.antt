-- Words name no more records than they are.
use Rattle.std.proofs.Common.{◌≡◌, ◌≢◌, ℕ, ◌+◌, ◌≤◌, List, [], ◌∷◌, length, get_or, count_by, All, AllPairs, Bool, true, false, cond, eqb, Some, sym, refl, ap, ◌∙◌, arith}
use Rattle.std.proofs.lemmas.Bool.{eqb-true}
use Rattle.std.proofs.lemmas.List.Elements.{All-head, All-tail}
use Rattle.limbo_bags.proofs.Counts.{AllPairs-head, AllPairs-tail}
use Rattle.row_words.specs.Refs.{RefParts, IsRef}
use Rattle.row_words.specs.Packing.{packed_ref}
use Rattle.row_words.proofs.Packed.{packed_ref_same}
use Rattle.record_rule.proofs.CountingPlaces.{bit, count_cons}
use Rattle.reclaim_hazard.specs.Sifting.{stays}

-- where no record passes, none counts
count_none : (p : RefParts → Bool) (rs : List RefParts) → All (λ r. p r ≡ false) rs → count_by p rs ≡ 0
count_none p [] all = refl
count_none p (r ∷ rs) all = let a = ap bit (All-head (λ q. p q ≡ false) r rs all) in let b = count_none p rs (All-tail (λ q. p q ≡ false) r rs all) in let c = count_cons p r rs in omega arith

-- a count of what passes one of two tests
count_either : (p q : RefParts → Bool) (rs : List RefParts) → count_by (λ r. cond (p r) true (q r)) rs ≤ count_by p rs + count_by q rs
count_either p q [] = omega arith
count_either p q (r ∷ rs) = let a = count_cons (λ x. cond (p x) true (q x)) r rs in let b = count_cons p r rs in let c = count_cons q r rs in let d = count_either p q rs in let e = one (p r) (q r) in omega arith
  where
    one : (a b : Bool) → bit (cond a true b) ≤ bit a + bit b
    one true b = omega arith
    one false b = omega arith

one_ref : (s t : RefParts) → Some s ≡ Some t → s ≡ t
one_ref s t e = cc

-- one word names one record at most
one_named : (v : ℕ) (rs : List RefParts) → AllPairs (λ a b. a.index ≢ b.index) rs → All IsRef rs → count_by (λ r. eqb v (packed_ref (Some r))) rs ≤ 1
one_named v [] pairs refs = omega arith
one_named v (r ∷ rs) pairs refs = by (eqb v (packed_ref (Some r))) refl (one_named v rs (AllPairs-tail (λ a b. a.index ≢ b.index) r rs pairs) (All-tail IsRef r rs refs))
  where
    other : eqb v (packed_ref (Some r)) ≡ true → (q : RefParts) → r.index ≢ q.index → IsRef q → (b : Bool) → eqb v (packed_ref (Some q)) ≡ b → b ≡ false
    other e q ne is false f = refl
    other e q ne is true f = absurd (ne (ap (λ (x : RefParts). x.index) (one_ref r q (packed_ref_same (Some r) (Some q) (All-head IsRef r rs refs) is (sym (eqb-true v (packed_ref (Some r)) e) ∙ eqb-true v (packed_ref (Some q)) f)))))

    by : (b : Bool) → eqb v (packed_ref (Some r)) ≡ b → count_by (λ q. eqb v (packed_ref (Some q))) rs ≤ 1 → count_by (λ q. eqb v (packed_ref (Some q))) (r ∷ rs) ≤ 1
    by false e most = let a = count_cons (λ q. eqb v (packed_ref (Some q))) r rs in let b = ap bit e in omega arith
    by true e most = let a = count_cons (λ q. eqb v (packed_ref (Some q))) r rs in let b = ap bit e in
        let c = count_none (λ q. eqb v (packed_ref (Some q))) rs (λ k d low. other e (get_or rs k d) (AllPairs-head (λ a b. a.index ≢ b.index) r rs pairs k d low) (All-tail IsRef r rs refs k d low) (eqb v (packed_ref (Some (get_or rs k d)))) refl) in omega arith

pub names_fit : (words : List ℕ) (rs : List RefParts) → AllPairs (λ a b. a.index ≢ b.index) rs → All IsRef rs → count_by (stays words) rs ≤ length words
names_fit [] rs pairs refs = let a = count_none (λ r. false) rs (λ k d low. refl) in omega arith
names_fit (v ∷ vs) rs pairs refs = let a = count_either (λ r. eqb v (packed_ref (Some r))) (stays vs) rs in let b = one_named v rs pairs refs in let c = names_fit vs rs pairs refs in omega arith
