-- What is counted, call by call.
use Rattle.std.proofs.Common.{◌≡◌, ℕ, ◌+◌, ◌≤◌, List, [], ◌∷◌, length, Bool, true, false, arith}
use Rattle.std.specs.Prelude.{sum_by}
use Rattle.std.specs.List.{zip}
use Rattle.std.proofs.lemmas.List.Sums.{sum_by-cons}
use Rattle.set_model.specs.declared.calls.Call.{Call}
use Rattle.set_model.specs.declared.calls.Reply.{Reply}
use Rattle.key_sums.specs.Tallies.{one_if}

module _ (f : Call × Reply → ℕ) where
  -- what one more call adds was left to count before
  pub counted_more : (answer : Call × Reply) (left : List (Call × Reply)) (t u total : ℕ) → t + sum_by f (answer ∷ left) ≡ total → u ≡ t + f answer → u + sum_by f left ≡ total
  counted_more answer left t u total all more = omega (arith, all, more, sum_by-cons f answer left)

  -- in the end nothing is left
  pub counted_all : (calls : List Call) (replies : List Reply) (t total : ℕ) → length calls ≡ 0 → t + sum_by f (zip calls replies) ≡ total → t ≡ total
  counted_all [] replies t total none all = omega (arith, all)
  counted_all (call ∷ calls) replies t total none all = absurd (omega (arith, none))

pub one_small : (b : Bool) → one_if b ≤ 1
one_small true = omega arith
one_small false = omega arith
