-- Words are copied one after another.
use Rattle.std.proofs.Common.{◌≡◌, ℕ, ◌+◌, ◌<◌, ◌≤◌, List, [], ◌∷◌, ◌++◌, length, take, set, sym, ap, ◌∙◌, arith}
use Rattle.std.proofs.lemmas.List.{take_more, take_more_set, take_all}
use mathlib.Core.Option.{some}
use lib.ListN.{get_elem?}
use Rattle.record_rule.proofs.Lists.{below_at, get_at}

pub copies_more : (xs ys : List ℕ) (i r : ℕ) → i < length xs → get_elem? ys i ≡ some r → take i xs ≡ take i ys → take (i + 1) (set xs i r) ≡ take (i + 1) ys
copies_more xs ys i r lt at same = take_more_set xs i r lt ∙ ap (λ l. l ++ r ∷ []) same ∙ ap (λ (z : ℕ). take i ys ++ z ∷ []) (sym (get_at ys i r 0 at)) ∙ sym (take_more ys i 0 (below_at ys i r at))

pub copies_all : (xs ys : List ℕ) (n : ℕ) → length xs ≤ n → length ys ≡ length xs → take n xs ≡ take n ys → ys ≡ xs
copies_all xs ys n l m same = sym (take_all n ys (omega arith)) ∙ sym same ∙ take_all n xs l
