use Rattle.std.proofs.Common.{◌≡◌, ◌+◌, ◌*◌, ◌^◌, ◌≤◌, length, count_by}
use Rattle.std.specs.List.{zip}
use Rattle.std.specs.Iterator.Adapters.{zip_first, zip_second}
use Rattle.std.specs.Slice.Iter.{iter_rest}
use Rattle.key_sums.specs.Tallies.{is_addition, is_removal, key_sum}
use Rattle.key_sums.proofs.counting.tally.Given as goal

-- what was counted, and what is left to count, is all
abbrev pub invariant-loop-call : goal.invariant-loop-call
invariant-loop-call l =
    let calls = iter_rest (zip_first l.call-iterator) in
    let replies = iter_rest (zip_second l.call-iterator) in
    record {
      can_next : (goal.iterator-loop-call).can_next l.call-iterator;
      finite : (goal.iterator-loop-call).is_finite l.call-iterator;
      same_length : length replies ≡ length calls;
      added : l.tally.added + count_by is_addition (zip calls replies) ≡ count_by is_addition (zip l.calls l.replies);
      removed : l.tally.removed + count_by is_removal (zip calls replies) ≡ count_by is_removal (zip l.calls l.replies);
      added_sum : l.tally.added_sum + key_sum is_addition (zip calls replies) ≡ key_sum is_addition (zip l.calls l.replies);
      removed_sum : l.tally.removed_sum + key_sum is_removal (zip calls replies) ≡ key_sum is_removal (zip l.calls l.replies);
      few : (l.tally.added + length calls ≤ length l.calls) × (l.tally.removed + length calls ≤ length l.calls);
      small : (l.tally.added_sum + length calls * 2 ^ 64 ≤ length l.calls * 2 ^ 64) × (l.tally.removed_sum + length calls * 2 ^ 64 ≤ length l.calls * 2 ^ 64);
    }
