-- What calls of a guard that answer no call of its caller leave.
use Rattle.std.specs.Prelude.{◌≡◌}
use Rattle.record_table.specs.Handles.{view, IsSamePass}
use Rattle.reclaim_api.specs.declared.scheme.Scheme.{Ghosts as OfScheme}
use Rattle.alloc_api.specs.declared.Allocator.{Ghosts as OfAllocator}
use Rattle.pool.specs.declared.Pool.{Ghosts as OfPool}
use Rattle.manager.specs.declared.types.Guard.{Guard}
use Rattle.manager.specs.Callers.{AnswersNone, KeepsOwn, KeepsLocks}

module _ {S R L A P : Type 0} {r : OfScheme R L} {a : OfAllocator A} {p : OfPool P} where
  -- the same guard after calls of it: its caller has the same words locked
  pub record IsSameGuard (g h : Guard S R A P L r a p) : Type 0 where
    pub manager : h.manager.now ≡ g.manager.now
    pub caller : h.caller.ghost_name ≡ g.caller.ghost_name
    pub pass : IsSamePass g.caller.now.pass h.caller.now.pass
    pub locks : KeepsLocks (view g.caller.now.pass) (view h.caller.now.pass)

  -- and where these answered no call: its caller owns what it owned
  pub record GoesOn (g h : Guard S R A P L r a p) : Type 0 where
    pub same : IsSameGuard g h
    pub answers : AnswersNone (view g.caller.now.pass) (view h.caller.now.pass)
    pub owns : KeepsOwn (view g.caller.now.pass) (view h.caller.now.pass)
