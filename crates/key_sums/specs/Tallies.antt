-- What calls added and took away, by their replies.
use Rattle.std.specs.Prelude.{◌≡◌, ℕ, Bool, true, false, if◌then◌else◌, List, count_by, sum_by}
use Rattle.set_model.specs.declared.calls.Call.{Call}
use Rattle.set_model.specs.declared.calls.Call.TheVariants.{Insert, Remove}
use Rattle.set_model.specs.declared.calls.Reply.{Reply}
use Rattle.set_model.specs.declared.calls.Reply.TheVariants.{Yes}
use Rattle.set_model.specs.Machine.{key_of}
use Rattle.key_sums.specs.declared.tallies.Tally.{Tally}

-- an insertion that was answered yes, and a removal
abbrev pub is_addition : Call × Reply → Bool
is_addition (Insert key, Yes) = true
is_addition answer = false

abbrev pub is_removal : Call × Reply → Bool
is_removal (Remove key, Yes) = true
is_removal answer = false

abbrev pub one_if : Bool → ℕ
one_if passes = if passes then 1 else 0

-- the key of a call that passes the test
abbrev pub key_if : (Call × Reply → Bool) → Call × Reply → ℕ
key_if test answer = if test answer then key_of answer.0 else 0

-- the sum of the keys of the calls that pass it
abbrev pub key_sum : (Call × Reply → Bool) → List (Call × Reply) → ℕ
key_sum test answers = sum_by (key_if test) answers

-- these calls with their replies added and took away so many keys
pub record IsTallyOf (t : Tally) (answers : List (Call × Reply)) : Type 0 where
  pub added : t.added ≡ count_by is_addition answers
  pub removed : t.removed ≡ count_by is_removal answers
  pub added_sum : t.added_sum ≡ key_sum is_addition answers
  pub removed_sum : t.removed_sum ≡ key_sum is_removal answers
