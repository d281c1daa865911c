-- Records of a table that differ are at most as many as the table can have.
use Rattle.std.proofs.Common.{◌≡◌, ◌≢◌, ℕ, suc, ◌<◌, ◌≤◌, ◌^◌, eqb, true, false, List, [], ◌∷◌, length, map, All, arith}
use Rattle.std.specs.List.{AllPairs, IsDistinct, list_any}
use Rattle.std.proofs.lemmas.List.{length-map}
use Rattle.std.proofs.lemmas.List.Elements.{All-weaker, All-map, recursion_from_All}
use Rattle.std.proofs.lemmas.List.Folds.{Any-from_list_any}
use Rattle.std.proofs.lemmas.Bool.Decides.{Decides-eqb, nat_tests}
use Rattle.std.proofs.lemmas.Map.Keys.{IsDistinct-cons}
use Rattle.std.proofs.lemmas.Map.Steps.{length-le_from_distinct_below}
use Rattle.row_words.specs.Refs.{RefParts, IsRef}

pub AllPairs-head : {X : Type 0} (R : X → X → Type 0) (x : X) (xs : List X) → AllPairs R (x ∷ xs) → All (R x) xs
AllPairs-head R x xs p k d h = p 0 (suc k) d (omega arith) (omega arith)

pub AllPairs-tail : {X : Type 0} (R : X → X → Type 0) (x : X) (xs : List X) → AllPairs R (x ∷ xs) → AllPairs R xs
AllPairs-tail R x xs p i j d h k = p (suc i) (suc j) d (omega arith) (omega arith)

-- the numbers of a list are all below n
below : (xs : List ℕ) (n : ℕ) → All (λ x. x < n) xs → (q : ℕ) → list_any (eqb q) xs ≡ true → q < n
below xs n h q e =
    let found = Any-from_list_any (eqb q) xs e in
    let same : q ≡ found.1 = (Decides-eqb q found.1).0 found.4 in
    omega (arith, h found.0 found.1 found.2, found.3, same)

eqb-apart : (a b : ℕ) → a ≢ b → eqb a b ≡ false
eqb-apart a b n = grind (arith, nat_tests)

pub indices_distinct : (refs : List RefParts) → AllPairs (λ a b. a.index ≢ b.index) refs → IsDistinct eqb (map (λ (r : RefParts). r.index) refs)
unfolding IsDistinct
indices_distinct [] h = tt
indices_distinct (r ∷ rs) h =
    let apart = All-weaker (λ (q : RefParts). r.index ≢ q.index) (λ q. eqb r.index q.index ≡ false) (λ q n. eqb-apart r.index q.index n) rs (AllPairs-head (λ a b. a.index ≢ b.index) r rs h) in
    let mapped = All-map (λ n. eqb r.index n ≡ false) (λ (q : RefParts). q.index) rs apart in
    IsDistinct-cons eqb r.index _ (recursion_from_All (λ n. eqb r.index n ≡ false) _ mapped) (indices_distinct rs (AllPairs-tail (λ a b. a.index ≢ b.index) r rs h))

pub length-le_from_refs : (refs : List RefParts) → AllPairs (λ a b. a.index ≢ b.index) refs → All IsRef refs → length refs ≤ 2 ^ 20
length-le_from_refs refs d h =
    let index : RefParts → ℕ = λ r. r.index in
    let small = All-map (λ n. n < 2 ^ 20) index refs (All-weaker IsRef (λ r. r.index < 2 ^ 20) (λ r b. b.index.1) refs h) in
    let bound = length-le_from_distinct_below (map index refs) (2 ^ 20) (indices_distinct refs d) (below _ _ small) in
    omega (arith, bound, length-map refs index)
