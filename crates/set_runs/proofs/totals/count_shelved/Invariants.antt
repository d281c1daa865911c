use Rattle.std.proofs.Common.{◌≡◌, take, sum_by}
use Rattle.manager.specs.Counted.{shown}
use Rattle.set_runs.specs.Totals.{chain_in, shelf_words}
use Rattle.set_runs.proofs.totals.count_shelved.Given as goal

-- the shelves before this one are counted
abbrev pub invariant-loop-k : goal.invariant-loop-k
invariant-loop-k l = l.found ≡ shown (sum_by chain_in (take l.k (shelf_words l.closed)))
