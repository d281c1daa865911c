use Rattle.std.proofs.Common.{◌≡◌, Some, sym, subst}
use Rattle.set_model.specs.declared.calls.Call.TheVariants.{Remove}
use Rattle.row_words.specs.Refs.{LinkParts}
use Rattle.record_rule.specs.LockedLinks.{HasLocked, StoredLink}
use Rattle.record_rule.specs.Links.{near_of}
use Rattle.record_table.specs.declared.nodes.Held.{Held}
use Rattle.record_table.specs.declared.nodes.Node.TheVariants.{At}
use Rattle.record_table.specs.Handles.{setup_of, view}
use Rattle.record_table.specs.Nodes.{origin_held}
use Rattle.record_pieces.specs.Events.{stored_link}
use Rattle.manager.specs.Guards.{Did}
use Rattle.manager.proofs.Locks.{locked_once}
use Rattle.lazy_facts.specs.Lazy.{lazy, MayTurn}
use Rattle.lazy_list.specs.Locking.{locked_with}
use Rattle.lazy_list.proofs.Locked.{may_mark, mark_unlocked, mark_left}
use Rattle.lazy_list.proofs.updating.mark_locked.Goals as goal

pub store_link-requires-clause-unlocked : goal.store_link-requires-clause-unlocked
store_link-requires-clause-unlocked g c = mark_unlocked c.args.link c.marked.result c.marked.ensures.link

pub store_link-requires-clause-allowed : goal.store_link-requires-clause-allowed
store_link-requires-clause-allowed g c =
    let f = c.args.guard.now in let p = f.caller.now.pass in let setup = setup_of f.manager.now.table in
    subst (λ (h : Held). (old : LinkParts) × HasLocked (view p) (origin_held h) 3 old × MayTurn setup (near_of (view p) (origin_held h)) 3 old c.marked.result (Some (Remove c.args.key))) (sym c.same_held.ensures)
    (locked_with c.args.link, c.requires.locked, may_mark p c.args.root c.args.at.now c.requires.at.0 setup c.args.key c.args.link c.marked.result c.requires.at.1 c.marked.ensures.link)

pub returns-clause-noted : goal.returns-clause-noted
returns-clause-noted g c =
    let p = c.args.guard.now.caller.now.pass in let q = c.store_link.new.self.caller.now.pass in
    let told = subst (λ (h : Held). (old : LinkParts) × HasLocked (view p) (origin_held h) 3 old × StoredLink lazy (view p) (origin_held h) 3 old c.marked.result (Some (Remove c.args.key)) (view q)) c.same_held.ensures c.store_link.ensures.step in
    mark_left p q c.args.root c.args.at.now c.requires.at.0 c.args.link told.0 c.marked.result (Some (Remove c.args.key)) c.marked.ensures.in_range c.marked.ensures.link told.2

pub returns-clause-did : goal.returns-clause-did
returns-clause-did g c =
    let f = c.args.guard.now in let h = c.store_link.new.self in let p = f.caller.now.pass in
    let told = subst (λ (at : Held). (old : LinkParts) × HasLocked (view p) (origin_held at) 3 old × Did f (stored_link (At at) 3 old c.marked.result (Some (Remove c.args.key))) h) c.same_held.ensures c.store_link.ensures.did in
    let same : told.0 ≡ locked_with c.args.link = locked_once (view p) (origin_held c.args.at.now) told.0 (locked_with c.args.link) told.1 c.requires.locked in
    subst (λ (z : LinkParts × LinkParts). Did f (stored_link (At c.args.at.now) 3 z.0 z.1 (Some (Remove c.args.key))) h) (λ k. (same k, c.marked.ensures.link k)) told.2
