use Rattle.std.proofs.Common.{◌≡◌, ◌+◌}
use Rattle.michael_hash.specs.Callers.{IsWholeCallerOf}
use Rattle.hash_tests.proofs.shelves.remove.Given as goal

abbrev pub invariant-loop-key : goal.invariant-loop-key
invariant-loop-key g l = record {
  last : l.key-end ≡ l.last + 1;
  caller : IsWholeCallerOf g.R.Scheme.is_local l.hash.lists.manager.table l.caller;
}
