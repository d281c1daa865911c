use Rattle.std.proofs.Common.{◌≡◌, ℕ, ◌*◌}
use Rattle.record_table.specs.Handles.{view, IsPassOf, IsSamePass}
use Rattle.pool.proofs.Passing.{Passed}
use Rattle.pool.proofs.shelf_pool.ShelfPoolPool.take.Given as goal

-- each shelf before this one was empty
abbrev pub invariant-loop-shelf : goal.invariant-loop-shelf
invariant-loop-shelf g l = record {
  of : IsPassOf l.table l.pass;
  same : IsSamePass l.fn.pass l.pass;
  passed : Passed (λ (n : ℕ). n ≡ 0) l.shelf (2 * l.shelf) 0 (view l.fn.pass) (view l.pass);
}
