-- What clauses say of a guard.
use Rattle.std.specs.Prelude.{List}
use Rattle.record_table.specs.Handles.{setup_of, view}
use Rattle.reclaim_api.specs.declared.scheme.Scheme.{Ghosts as OfScheme}
use Rattle.alloc_api.specs.declared.Allocator.{Ghosts as OfAllocator}
use Rattle.pool.specs.declared.Pool.{Ghosts as OfPool}
use Rattle.record_pieces.specs.Manners.{Manner}
use Rattle.record_pieces.specs.Events.{Event, Does}
use Rattle.record_pieces.specs.Trails.{Trail}
use Rattle.manager.specs.declared.types.Guard.{Guard}
use Rattle.manager.specs.Callers.{IsWorking}
use Rattle.manager.specs.Manners.{manner}

-- what a reclaimer, an allocator and a pool say of their steps
abbrev pub manner_of : {R L A P : Type 0} → OfScheme R L → OfAllocator A → OfPool P → Manner
manner_of r a p = manner r.enters r.leaves r.bears r.reaches r.puts_away a.draws a.refuses p.SHELVES p.busy

module _ {S R L A P : Type 0} {r : OfScheme R L} {a : OfAllocator A} {p : OfPool P} where
  -- it isn't spent
  abbrev pub IsAtWork : Guard S R A P L r a p → Type 0
  IsAtWork g = IsWorking r.is_local g.caller.now

  -- its caller did this, and no more, between one and the other
  abbrev pub Did : Guard S R A P L r a p → Event → Guard S R A P L r a p → Type 0
  Did g e h = Does (manner_of r a p) (setup_of g.manager.now.table) e (view g.caller.now.pass).own (view h.caller.now.pass).own

  -- or these, one after another
  abbrev pub DidAll : Guard S R A P L r a p → List Event → Guard S R A P L r a p → Type 0
  DidAll g es h = Trail (manner_of r a p) (setup_of g.manager.now.table) es (view g.caller.now.pass).own (view h.caller.now.pass).own
