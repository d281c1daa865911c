-- The root of a key is one of the table's throughout an operation.
use Rattle.std.proofs.Common.{ℕ, ◌<◌, sym, subst}
use Rattle.record_memory.specs.declared.books.Setup.{Setup}
use Rattle.record_table.specs.Handles.{setup_of, view}
use Rattle.reclaim_api.specs.declared.scheme.Scheme.{Ghosts as OfScheme}
use Rattle.alloc_api.specs.declared.Allocator.{Ghosts as OfAllocator}
use Rattle.pool.specs.declared.Pool.{Ghosts as OfPool}
use Rattle.manager.specs.declared.types.Guard.{Guard}
use Rattle.set_calls.specs.Going.{IsSameGuard}
use Rattle.list_calls.specs.Standing.{IsHome}

module _ {S R L A P : Type 0} {r : OfScheme R L} {a : OfAllocator A} {p : OfPool P} where
  -- its table is the same one
  pub home_then : (g h : Guard S R A P L r a p) (root key : ℕ) → IsSameGuard g h → IsHome (setup_of g.manager.now.table) root key → IsHome (setup_of h.manager.now.table) root key
  home_then g h root key same home = subst (λ (k : Setup). IsHome k root key) (sym (λ k. setup_of (same.manager k).table)) home

  pub root_there : (g : Guard S R A P L r a p) (root key : ℕ) → IsHome (setup_of g.manager.now.table) root key → root < (view g.caller.now.pass).setup.roots
  root_there g root key home = subst (λ (k : Setup). root < k.roots) (sym g.of.setup) home.0
