use Rattle.std.proofs.Common.{◌≡◌, ◌++◌, replicate}
use Rattle.record_table.proofs.opening.push_copies.Given as goal

abbrev pub invariant-loop-done : goal.invariant-loop-done
invariant-loop-done l = l.words.items ≡ l.fn.words.items ++ replicate l._done l.value
