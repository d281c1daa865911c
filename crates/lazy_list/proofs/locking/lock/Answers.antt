use Rattle.std.proofs.Common.{◌≡◌, Some, None, subst}
use Rattle.row_words.specs.Refs.{LinkParts}
use Rattle.row_words.specs.Packing.{IsLink}
use Rattle.record_rule.specs.Links.{near_of, ExchangedLink, locks_after}
use Rattle.record_table.specs.declared.nodes.Node.{Node}
use Rattle.record_table.specs.Handles.{setup_of, view}
use Rattle.record_table.specs.Nodes.{origin}
use Rattle.record_pieces.specs.Events.{exchanged}
use Rattle.manager.specs.Guards.{Did}
use Rattle.lazy_facts.specs.Lazy.{lazy}
use Rattle.lazy_list.proofs.Locked.{no_lock, may_lock, locks_then}
use Rattle.lazy_list.proofs.locking.lock.Goals as goal

pub exchange_link-requires-clause-unlocked : goal.exchange_link-requires-clause-unlocked
exchange_link-requires-clause-unlocked g c = no_lock c.args.link c.requires.link.0

pub exchange_link-requires-clause-allowed : goal.exchange_link-requires-clause-allowed
exchange_link-requires-clause-allowed g c =
    let f = c.args.guard.now in may_lock (setup_of f.manager.now.table) (near_of (view f.caller.now.pass) (origin c.same_node.result)) c.args.link c.locked.result c.requires.link.0 c.locked.ensures.link

pub returns-in-Ok-clause-locks : goal.returns-in-Ok-clause-locks
returns-in-Ok-clause-locks g c =
    let p = c.args.guard.now.caller.now.pass in let q = c.exchange_link.new.self.caller.now.pass in
    let told = subst (λ (z : Node × LinkParts). ExchangedLink lazy (view p) (origin z.0) 3 c.args.link z.1 None (view q)) (λ k. (c.same_node.ensures k, c.locked.ensures.link k)) c.in-Ok.ensures.step in
    let locks = subst (λ (z : Node × LinkParts). (view q).own.locks ≡ locks_after lazy (view p) (origin z.0) 3 z.1) (λ k. (c.same_node.ensures k, c.locked.ensures.link k)) c.in-Ok.ensures.locks in
    locks_then (view p) (view q) (origin c.args.node.now) c.args.link told (subst IsLink c.locked.ensures.link c.locked.ensures.in_range) locks

pub returns-in-Err-clause-did : goal.returns-in-Err-clause-did
returns-in-Err-clause-did g c =
    let f = c.args.guard.now in let h = c.exchange_link.new.self in let other = c.in-Err.field-0.link in
    (other, subst (λ (z : Node × LinkParts). Did f (exchanged z.0 3 c.args.link z.1 None (Some other)) h) (λ k. (c.same_node.ensures k, c.locked.ensures.link k)) c.in-Err.ensures.did)
