use Rattle.std.proofs.Common.{◌≡◌, ◌++◌}
use Rattle.record_rule.specs.Opening.{rows_of}
use Rattle.record_table.proofs.opening.push_rows.Given as goal

abbrev pub invariant-loop-done : goal.invariant-loop-done
invariant-loop-done l = l.words.items ≡ l.fn.words.items ++ rows_of l._done l.row
