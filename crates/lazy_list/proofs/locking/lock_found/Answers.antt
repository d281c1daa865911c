use Rattle.std.proofs.Common.{◌≡◌, [], ℕ, List, Bool, true, false, Option, Some, None, refl, sym, subst}
use Rattle.std.specs.Prelude.{MatchBool}
use Rattle.row_words.specs.Refs.{RefParts, LinkParts}
use Rattle.reclaim_api.specs.declared.scheme.Scheme.{Ghosts as OfScheme}
use Rattle.alloc_api.specs.declared.Allocator.{Ghosts as OfAllocator}
use Rattle.pool.specs.declared.Pool.{Ghosts as OfPool}
use Rattle.record_table.specs.declared.nodes.Node.{Node}
use Rattle.record_pieces.specs.Events.{Event, exchanged}
use Rattle.manager.specs.declared.types.Guard.{Guard}
use Rattle.manager.specs.Guards.{Did, DidAll}
use Rattle.set_calls.proofs.Going.{did_one}
use Rattle.lazy_list.specs.Locking.{locked_with, link_to, locked_to}
use Rattle.lazy_list.specs.Pieces.{tries_lock, FailsToLock, has_flags, is_another}
use Rattle.lazy_list.proofs.locking.lock_found.Goals as goal

pub returns-then-flags-ne0-clause-did : goal.returns-then-flags-ne0-clause-did
returns-then-flags-ne0-clause-did g c = ([], has_flags c.if-flags-ne0.true, refl)

-- a try of a link without flags
tried : {S R L A P : Type 0} {r : OfScheme R L} {a : OfAllocator A} {p : OfPool P} (f h : Guard S R A P L r a p) (node : Node) (flags : ℕ) (target : Option RefParts) (link : LinkParts) → link ≡ link_to target → flags ≡ 0 → (b : Bool)
    → MatchBool b (Did f (exchanged node 3 link (locked_with link) None None) h) ((other : LinkParts) × Did f (exchanged node 3 link (locked_with link) None (Some other)) h)
    → MatchBool b ((flags ≡ 0) × DidAll f (tries_lock node target None) h) ((es : List Event) × FailsToLock node flags target es × DidAll f es h)
tried f h node flags target link is clear true did = (clear, did_one f h (exchanged node 3 (link_to target) (locked_to target) None None) (subst (λ (l : LinkParts). Did f (exchanged node 3 l (locked_with l) None None) h) is did))
tried f h node flags target link is clear false did = (
  tries_lock node target (Some did.0),
  subst (λ k. FailsToLock node k target (tries_lock node target (Some did.0))) (sym clear) (is_another did.0),
  did_one f h (exchanged node 3 (link_to target) (locked_to target) None (Some did.0)) (subst (λ (l : LinkParts). Did f (exchanged node 3 l (locked_with l) None (Some did.0)) h) is did.1),
)

pub returns-clause-did : goal.returns-clause-did
returns-clause-did g c = tried c.args.guard.now c.lock.new.guard c.args.node.now c.args.flags c.args.target c.to.result c.to.ensures.link c.if-flags-ne0.false c.lock.result c.lock.ensures.did
