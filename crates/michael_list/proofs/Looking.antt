-- What the two loads of a record that a hop reached show, and what follows.
use Rattle.std.proofs.Common.{◌≡◌, ℕ, [], ◌∷◌, ◌++◌, List}
use Rattle.row_words.specs.Refs.{LinkParts}
use Rattle.record_table.specs.declared.nodes.Held.{Held}
use Rattle.record_table.specs.declared.nodes.Node.TheVariants.{At}
use Rattle.reclaim_api.specs.declared.scheme.Scheme.{Ghosts as OfScheme}
use Rattle.alloc_api.specs.declared.Allocator.{Ghosts as OfAllocator}
use Rattle.pool.specs.declared.Pool.{Ghosts as OfPool}
use Rattle.record_pieces.specs.Events.{Event, keyed, looked}
use Rattle.manager.specs.declared.types.Guard.{Guard}
use Rattle.manager.specs.Guards.{Did, DidAll}
use Rattle.set_calls.proofs.Going.{did_one, did_then}
use Rattle.michael_list.specs.Walks.{loads}

module _ {S R L A P : Type 0} {r : OfScheme R L} {a : OfAllocator A} {p : OfPool P} (f g h : Guard S R A P L r a p) (at : Held) (found : ℕ) (link : LinkParts)
    (seen : ℕ) (same : g.manager.now ≡ f.manager.now) (key : Did f (keyed at.target found) g) (look : Did g (looked (At at) 3 link seen) h) where
  pub did_loads : DidAll f (loads at found link seen) h
  did_loads = did_then f g h (keyed at.target found ∷ []) (looked (At at) 3 link seen ∷ []) same (did_one f g (keyed at.target found) key) (did_one g h (looked (At at) 3 link seen) look)

  -- and more behind them
  pub did_more : (i : Guard S R A P L r a p) (es : List Event) → h.manager.now ≡ f.manager.now → DidAll h es i → DidAll f (loads at found link seen ++ es) i
  did_more i es all t = did_then f h i (loads at found link seen) es all did_loads t
