-- The two callers of a table, through their operations.
use Rattle.std.proofs.Common.{◌≡◌, List, [], ◌∷◌, ◌++◌, length, All, refl, ap, ◌∙◌, subst}
use Rattle.std.proofs.lemmas.List.{nil_from_length}
use Rattle.std.proofs.lemmas.List.Elements.{All-nil, All-cons, All-head, All-tail}
use Rattle.record_table.specs.declared.table.Table.{Table}
use Rattle.record_table.specs.declared.passes.Pass.{Pass}
use Rattle.record_table.specs.Handles.{IsPassOf, IsSamePass}
use Rattle.record_table.specs.Closing.{IsWholePassOf, AreAllPasses}
use Rattle.reclaim_api.specs.Guarding.{IsSameCaller}
use Rattle.manager.specs.declared.types.Caller.{Caller}
use Rattle.manager.specs.Callers.{IsResting}
use Rattle.manager.specs.Made.{passes_of}
use Rattle.reclaim_none.specs.Starting.{IsLocal}
use Rattle.list_tests.specs.Both.{AreBoth}

module _ {S R : Type 0} where
  -- one caller where it does nothing, and over an operation from its beginning to its end
  pub same_caller : (p : Pass S R) → IsSameCaller p p
  same_caller p = record { table = refl; seat = refl; caller = refl; setup = refl; present = refl; others = refl }

  pub same_over : (p q r s : Pass S R) → IsSameCaller p q → IsSamePass q r → IsSameCaller r s → IsSameCaller p s
  same_over p q r s a b d = record {
    table = d.table ∙ b.table ∙ a.table;
    seat = d.seat ∙ b.seat ∙ a.seat;
    caller = d.caller ∙ b.caller ∙ a.caller;
    setup = d.setup ∙ b.setup ∙ a.setup;
    present = d.present ∙ b.present ∙ a.present;
    others = d.others ∙ b.others ∙ a.others;
  }

  -- a pass of a table that has absorbed no other stays one
  whole_still : (t : Table S R) (p q : Pass S R) → IsSameCaller p q → IsWholePassOf t p → IsWholePassOf t q
  whole_still t p q same whole = record {
    pass = record { table = same.table ∙ whole.pass.table; setup = same.setup ∙ whole.pass.setup; present = same.present ∙ whole.pass.present };
    whole = same.others ∙ whole.whole;
  }

module _ {S R L : Type 0} (t : Table S R) where
  -- the two that were taken from a list of all
  pub both_taken : (xs ys zs : List (Caller S R L)) (zero one : Caller S R L) → xs ≡ ys ++ one ∷ [] → ys ≡ zs ++ zero ∷ [] → length zs ≡ 0 → AreAllPasses t (passes_of xs) → All (IsResting IsLocal) xs → AreBoth t zero one
  both_taken xs ys zs zero one last first none all rest =
      let is : xs ≡ zero ∷ one ∷ [] = last ∙ ap (λ (l : List (Caller S R L)). l ++ one ∷ []) (first ∙ ap (λ (l : List (Caller S R L)). l ++ zero ∷ []) (nil_from_length zs none)) in
      let each = subst (λ (l : List (Caller S R L)). All (IsResting IsLocal) l) is rest in record {
        all = subst (λ (l : List (Caller S R L)). AreAllPasses t (passes_of l)) is all;
        zero_rests = All-head (IsResting IsLocal) zero (one ∷ []) each;
        one_rests = All-head (IsResting IsLocal) one [] (All-tail (IsResting IsLocal) zero (one ∷ []) each);
      }

  -- each is a pass of the table
  pub zero_of : (zero one : Caller S R L) → AreBoth t zero one → IsPassOf t zero.pass
  zero_of zero one both = (All-head (IsWholePassOf t) zero.pass (one.pass ∷ []) both.all.each).pass

  pub one_of : (zero one : Caller S R L) → AreBoth t zero one → IsPassOf t one.pass
  one_of zero one both = (All-head (IsWholePassOf t) one.pass [] (All-tail (IsWholePassOf t) zero.pass (one.pass ∷ []) both.all.each)).pass

  -- and stays it
  pub both_still : (zero one zero' one' : Caller S R L) → AreBoth t zero one → IsSameCaller zero.pass zero'.pass → IsSameCaller one.pass one'.pass → IsResting IsLocal zero' → IsResting IsLocal one' → AreBoth t zero' one'
  both_still zero one zero' one' both a b zero_rests one_rests = let each = both.all.each in record {
    all = record {
      each = All-cons (IsWholePassOf t) zero'.pass (one'.pass ∷ []) (whole_still t zero.pass zero'.pass a (All-head (IsWholePassOf t) zero.pass (one.pass ∷ []) each))
          (All-cons (IsWholePassOf t) one'.pass [] (whole_still t one.pass one'.pass b (All-head (IsWholePassOf t) one.pass [] (All-tail (IsWholePassOf t) zero.pass (one.pass ∷ []) each))) (All-nil (IsWholePassOf t)));
      order = (λ k. a.caller k ∷ b.caller k ∷ []) ∙ both.all.order;
    };
    zero_rests = zero_rests;
    one_rests = one_rests;
  }
