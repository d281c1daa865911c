-- The last of a list of fresh passes.
use Rattle.std.proofs.Common.{◌≡◌, ℕ, ◌+◌, List, ◌++◌, length, Option, Some, None, refl, subst, arith}
use Rattle.std.specs.Prelude.{option_to_list, IfSome}
use Rattle.atomic_table.proofs.Lists.{at_longer, at_last}
use Rattle.record_memory.specs.declared.books.Guard.{Guard}
use Rattle.record_table.specs.declared.table.Table.{Table}
use Rattle.record_table.specs.declared.passes.Pass.{Pass}
use Rattle.record_table.specs.Handles.{setup_of, view, IsPassOf}
use Rattle.record_table.specs.Made.{IsFresh, IsOutside, AreFreshFrom}

module _ {S R : Type 0} (t : Table S R) (first : Guard) (xs ys : List (Pass S R)) where
  pub rest_fresh : (zs : List (Pass S R)) → xs ≡ ys ++ zs → AreFreshFrom t first 0 xs → AreFreshFrom t first 0 ys
  rest_fresh zs e f = let g = subst (AreFreshFrom t first 0) e f in record { each_pass = λ k p at. g.each_pass k p (at_longer ys zs k p at); each_view = λ k p at. g.each_view k p (at_longer ys zs k p at); each_outside = λ k p at. g.each_outside k p (at_longer ys zs k p at) }

  pub last_pass : (o : Option (Pass S R)) → xs ≡ ys ++ option_to_list o → AreFreshFrom t first 0 xs → IfSome o (λ p. IsPassOf t p)
  last_pass None e f = tt
  last_pass (Some p) e f = (subst (AreFreshFrom t first 0) e f).each_pass (length ys) p (at_last ys p (length ys) refl)

  pub last_outside : (o : Option (Pass S R)) → xs ≡ ys ++ option_to_list o → AreFreshFrom t first 0 xs → IfSome o IsOutside
  last_outside None e f = tt
  last_outside (Some p) e f = (subst (AreFreshFrom t first 0) e f).each_outside (length ys) p (at_last ys p (length ys) refl)

  pub last_fresh : (o : Option (Pass S R)) → xs ≡ ys ++ option_to_list o → AreFreshFrom t first 0 xs → IfSome o (λ p. IsFresh (setup_of t) first (length ys) (view p))
  last_fresh None e f = tt
  last_fresh (Some p) e f = subst (λ (n : ℕ). IsFresh (setup_of t) first n (view p)) (let z : 0 + length ys ≡ length ys = omega arith in z) ((subst (AreFreshFrom t first 0) e f).each_view (length ys) p (at_last ys p (length ys) refl))
