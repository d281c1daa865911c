use Rattle.std.proofs.Common.{◌≡◌, [], ◌∷◌, Some, None, sym, refl, ap, ◌∙◌, subst}
use Rattle.row_words.specs.Refs.{LinkParts, RefParts}
use Rattle.record_rule.specs.LockedLinks.{HasLocked}
use Rattle.record_rule.specs.Links.{near_of}
use Rattle.record_table.specs.declared.nodes.Held.{Held}
use Rattle.record_table.specs.declared.nodes.Node.{Node}
use Rattle.record_table.specs.Handles.{setup_of, view}
use Rattle.record_table.specs.Nodes.{origin, origin_held}
use Rattle.record_pieces.specs.Events.{Event, unlinked_locked, retired}
use Rattle.manager.specs.Guards.{Did}
use Rattle.manager.proofs.Locks.{locked_once}
use Rattle.set_calls.proofs.Going.{did_one, did_then}
use Rattle.lazy_facts.specs.Lazy.{lazy}
use Rattle.lazy_list.specs.Locking.{locked_to}
use Rattle.lazy_list.proofs.updating.take_out_locked.Goals as goal

pub unlink_locked-taken-requires-clause-allowed : goal.unlink_locked-taken-requires-clause-allowed
unlink_locked-taken-requires-clause-allowed g c =
    let f = c.args.guard.now in let p = f.caller.now.pass in let setup = setup_of f.manager.now.table in
    subst (λ (z : Node × Held). (old : LinkParts) × HasLocked (view p) (origin z.0) 3 old × (old.target ≡ Some z.1.target) × lazy.may_unlink setup (near_of (view p) (origin z.0)) 3 old (near_of (view p) (origin_held z.1)) c.args.link None None)
    (λ k. (sym c.same_node.ensures k, sym c.same_held.ensures k))
    (locked_to (Some c.args.gone.now.target), c.requires.locked, refl, (refl, (refl, (c.args.gone.now.target.generation, c.requires.marked), c.requires.link.0), refl))

pub returns-clause-did : goal.returns-clause-did
returns-clause-did g c =
    let f = c.args.guard.now in let i = c.unlink_locked-taken.new.self in let h = c.retire.new.self in let p = f.caller.now.pass in
    let before = c.args.before.now in let gone = c.args.gone.now in let old = locked_to (Some gone.target) in
    let told = subst (λ (z : Node × Held). (l : LinkParts) × HasLocked (view p) (origin z.0) 3 l × Did f (unlinked_locked z.0 3 l z.1.target c.args.link) i) (λ k. (c.same_node.ensures k, c.same_held.ensures k)) c.unlink_locked-taken.ensures.did in
    let same : told.0 ≡ old = locked_once (view p) (origin before) told.0 old told.1 c.requires.locked in
    let out : Event = unlinked_locked before 3 old gone.target c.args.link in
    let away : Event = retired gone.target in
    let taken_is : c.unlink_locked-taken.result ≡ gone.target = c.unlink_locked-taken.ensures.record ∙ ap (λ (h : Held). h.target) c.same_held.ensures in
    let first = subst (λ (l : LinkParts). Did f (unlinked_locked before 3 l gone.target c.args.link) i) same told.2 in
    let last = subst (λ (r : RefParts). Did i (retired r) h) taken_is c.retire.ensures.did in
    did_then f i h (out ∷ []) (away ∷ []) c.unlink_locked-taken.ensures.same_reference.1 (did_one f i out first) (did_one i h away last)
