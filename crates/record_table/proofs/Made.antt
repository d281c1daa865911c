-- Passes are split off caller 0's one after another.
use Rattle.std.proofs.Common.{◌≡◌, ℕ, zero, suc, ◌+◌, ◌-◌, ◌<◌, List, [], ◌∷◌, ◌++◌, length, sym, refl, ap, ◌∙◌, subst, arith, ⊎_elim}
use mathlib.Core.Option.{some, some-injective, some-ne-none}
use lib.ListN.{get_elem?}
use Rattle.record_memory.specs.declared.books.Setup.{Setup}
use Rattle.record_memory.specs.declared.books.View.{View}
use Rattle.record_memory.specs.declared.books.Book.{Book}
use Rattle.record_memory.specs.declared.books.Guard.{Guard}
use Rattle.record_rule.specs.Opening.{first_book, first_books, first_view}
use Rattle.record_rule.specs.Splits.{left_of, right_of, split_left, split_right}
use Rattle.record_rule.proofs.Seats.{at_end}
use Rattle.record_table.specs.declared.table.Table.{Table}
use Rattle.record_table.specs.declared.passes.Pass.{Pass}
use Rattle.record_table.specs.Handles.{setup_of, view, IsPassOf}
use Rattle.record_table.specs.Made.{IsFreshWith, IsFresh, IsOutside, AreFreshFrom, AreFreshPasses}

-- the books of the callers from c on
abbrev pub books_from : Setup → Guard → ℕ → List Book
books_from setup first c = first_books setup first c (setup.callers - c)

pub next_books : (setup : Setup) (first : Guard) (c : ℕ) → c < setup.callers → books_from setup first c ≡ first_book setup first c ∷ books_from setup first (c + 1)
next_books setup first c h = ap (first_books setup first c) (let e : setup.callers - c ≡ suc (setup.callers - (c + 1)) = omega arith in e)

pub no_books : (setup : Setup) (first : Guard) → books_from setup first setup.callers ≡ []
no_books setup first = ap (first_books setup first setup.callers) (let e : setup.callers - setup.callers ≡ 0 = omega arith in e)

module _ (setup : Setup) (first : Guard) (c d : ℕ) (v : View) (f : IsFreshWith setup first d (books_from setup first c) v) (lt : c < setup.callers) where
  pub more : v.others ≡ first_book setup first c ∷ books_from setup first (c + 1)
  more = f.others_are ∙ next_books setup first c lt

  pub left_fresh : IsFreshWith setup first d (books_from setup first (c + 1)) (split_left v)
  left_fresh = subst (λ l. IsFreshWith setup first d (books_from setup first (c + 1)) (left_of v l)) (sym more) record { setup_is = f.setup_is; present = f.present; own = f.own; others_are = refl; front = f.front; updates = f.updates; taken_out = f.taken_out }

  pub right_fresh : IsFresh setup first c (split_right v)
  right_fresh = subst (λ l. IsFresh setup first c (right_of v l)) (sym more) record { setup_is = f.setup_is; present = f.present; own = refl; others_are = refl; front = f.front; updates = f.updates; taken_out = f.taken_out }

pub first_fresh : (setup : Setup) (first : Guard) → IsFreshWith setup first 0 (books_from setup first 1) (first_view first setup)
first_fresh setup first = record { setup_is = refl; present = refl; own = refl; others_are = refl; front = refl; updates = refl; taken_out = refl }

module _ {S R : Type 0} (t : Table S R) (first : Guard) where
  pub fresh_none : (from : ℕ) → AreFreshFrom t first from []
  fresh_none from = record { each_pass = λ k p e. absurd (some-ne-none p (sym e)); each_view = λ k p e. absurd (some-ne-none p (sym e)); each_outside = λ k p e. absurd (some-ne-none p (sym e)) }

  pub fresh_more : (from c : ℕ) (passes : List (Pass S R)) (p : Pass S R) → AreFreshFrom t first from passes → from + length passes ≡ c → IsPassOf t p → IsFresh (setup_of t) first c (view p) → IsOutside p → AreFreshFrom t first from (passes ++ p ∷ [])
  fresh_more from c passes p all n is fresh out = record {
    each_outside = λ k q e. ⊎_elim (λ x. all.each_outside k q x) (λ x. subst IsOutside x.1 out) (at_end passes p q k e);
    each_pass = λ k q e. ⊎_elim (λ x. all.each_pass k q x) (λ x. subst (IsPassOf t) x.1 is) (at_end passes p q k e);
    each_view = λ k q e. ⊎_elim (λ x. all.each_view k q x) (λ x. subst (λ (z : Pass S R). IsFresh (setup_of t) first (from + k) (view z)) x.1 (subst (λ (z : ℕ). IsFresh (setup_of t) first z (view p)) (sym (ap (λ (z : ℕ). from + z) x.0 ∙ n)) fresh)) (at_end passes p q k e);
  }

  first_pass : (p q : Pass S R) (passes : List (Pass S R)) (P : ℕ → Pass S R → Type 0) → P 0 p → ((k : ℕ) (q : Pass S R) → get_elem? passes k ≡ some q → P (suc k) q) → (k : ℕ) (q : Pass S R) → get_elem? (p ∷ passes) k ≡ some q → P k q
  first_pass p q0 passes P here all zero q e = subst (P 0) (some-injective p q e) here
  first_pass p q0 passes P here all (suc k) q e = all k q e

  pub fresh_first : (passes : List (Pass S R)) (p : Pass S R) → AreFreshFrom t first 1 passes → suc (length passes) ≡ (setup_of t).callers → IsPassOf t p → IsFresh (setup_of t) first 0 (view p) → IsOutside p → AreFreshPasses t first (p ∷ passes)
  fresh_first passes p all n is fresh out = record {
    all = n;
    each = record {
      each_pass = first_pass p p passes (λ _ q. IsPassOf t q) is all.each_pass;
      each_outside = first_pass p p passes (λ _ q. IsOutside q) out all.each_outside;
      each_view = first_pass p p passes (λ k q. IsFresh (setup_of t) first (0 + k) (view q)) fresh (λ k q e. subst (λ (z : ℕ). IsFresh (setup_of t) first z (view q)) (let z : 1 + k ≡ 0 + suc k = omega arith in z) (all.each_view k q e));
    };
  }
