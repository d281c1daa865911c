-- A table has as many records as are needed, unless the words choose fewer.
use Rattle.std.proofs.Common.{◌≡◌, ℕ, ◌+◌, ◌≤◌, Option, Some, None, ap, arith}
use Rattle.std.specs.Prelude.{IfSome}
use Rattle.std.proofs.Math.Nat.{min-eq_left}
use Rattle.set_model.specs.declared.names.SetName.{SetName}
use Rattle.set_model.specs.declared.names.SetName.TheVariants.{Plain, Michael}
use Rattle.command_words.specs.declared.command.PlayWords.{PlayWords}
use Rattle.workload_text.specs.Limits.{Plan, IsWorkload}
use Rattle.bench_core.specs.Tables.{HasEnough, all_insertions, needed, needed_for, records_chosen, records_for, roots_in}
use Rattle.bench_core.proofs.PlayOrder.{insertions-few}

chosen_enough : (chosen : Option ℕ) (need : ℕ) → need ≤ 1048575 → IfSome chosen (λ records. need ≤ records) → need ≤ records_chosen chosen need
chosen_enough (Some records) need few enough = enough
chosen_enough None need few enough = omega (arith, min-eq_left few)

-- each bucket and each insertion has one
pub enough_records : (chosen : PlayWords) (plan : Plan) → chosen.set ≡ Michael → chosen.buckets ≤ 4096 → IsWorkload plan → HasEnough chosen (all_insertions plan.lists) → chosen.buckets + all_insertions plan.lists ≤ records_for chosen (all_insertions plan.lists)
enough_records chosen plan hash few limits enough =
    let insertions = all_insertions plan.lists in
    let need : needed_for chosen insertions ≡ chosen.buckets + insertions = ap (λ (s : SetName). needed s (roots_in s chosen.buckets) insertions) hash in
    omega (arith, need, chosen_enough chosen.records (needed_for chosen insertions) (omega (arith, need, few, insertions-few plan limits)) enough)

-- a plain set needs none
pub plain_enough : (chosen : PlayWords) (insertions : ℕ) → chosen.set ≡ Plain → HasEnough chosen insertions
plain_enough chosen insertions plain = none_needed chosen.records where
  none_needed : (records : Option ℕ) → IfSome records (λ n. needed_for chosen insertions ≤ n)
  none_needed None = tt
  none_needed (Some n) = rw plain (omega arith)
