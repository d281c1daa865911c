use Rattle.std.proofs.Common.{◌≡◌, None, sym, subst}
use Rattle.row_words.specs.Refs.{LinkParts}
use Rattle.record_rule.specs.LockedLinks.{HasLocked}
use Rattle.record_rule.specs.Links.{near_of}
use Rattle.record_table.specs.declared.nodes.Node.{Node}
use Rattle.record_table.specs.Handles.{setup_of, view}
use Rattle.record_table.specs.Nodes.{origin}
use Rattle.record_pieces.specs.Events.{stored_link}
use Rattle.manager.specs.Guards.{Did}
use Rattle.manager.proofs.Locks.{locked_once}
use Rattle.lazy_facts.specs.Lazy.{MayTurn}
use Rattle.lazy_list.specs.Locking.{locked_with}
use Rattle.lazy_list.proofs.Locked.{may_unlock, clean_unlocked}
use Rattle.lazy_list.proofs.locking.unlock.Goals as goal

pub store_link-requires-clause-unlocked : goal.store_link-requires-clause-unlocked
store_link-requires-clause-unlocked g c = clean_unlocked c.args.link c.clean.result c.clean.ensures.link

pub store_link-requires-clause-allowed : goal.store_link-requires-clause-allowed
store_link-requires-clause-allowed g c =
    let f = c.args.guard.now in let p = f.caller.now.pass in
    subst (λ (n : Node). (old : LinkParts) × HasLocked (view p) (origin n) 3 old × MayTurn (setup_of f.manager.now.table) (near_of (view p) (origin n)) 3 old c.clean.result None) (sym c.same_node.ensures)
    (locked_with c.args.link, c.requires.locked, may_unlock (setup_of f.manager.now.table) (near_of (view p) (origin c.args.node.now)) c.args.link c.clean.result c.clean.ensures.link)

pub returns-clause-did : goal.returns-clause-did
returns-clause-did g c =
    let f = c.args.guard.now in let h = c.store_link.new.self in let p = f.caller.now.pass in
    let told = subst (λ (n : Node). (old : LinkParts) × HasLocked (view p) (origin n) 3 old × Did f (stored_link n 3 old c.clean.result None) h) c.same_node.ensures c.store_link.ensures.did in
    let same : told.0 ≡ locked_with c.args.link = locked_once (view p) (origin c.args.node.now) told.0 (locked_with c.args.link) told.1 c.requires.locked in
    subst (λ (z : LinkParts × LinkParts). Did f (stored_link c.args.node.now 3 z.0 z.1 None) h) (λ k. (same k, c.clean.ensures.link k)) told.2
