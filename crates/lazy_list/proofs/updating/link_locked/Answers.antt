use Rattle.std.proofs.Common.{◌≡◌, ℕ, ◌%◌, [], ◌∷◌, List, Some, sym, refl, ap, ◌∙◌, subst, arith}
use Rattle.set_model.specs.declared.calls.Call.TheVariants.{Insert}
use Rattle.row_words.specs.Refs.{RefParts, LinkParts}
use Rattle.row_words.specs.Packing.{packed_number, packed_ref}
use Rattle.row_words.proofs.Packed.{packed_ref_fits}
use Rattle.record_rule.specs.Kinds.{stored}
use Rattle.record_rule.specs.HandingOut.{HasOwn}
use Rattle.record_rule.specs.Links.{index_of}
use Rattle.record_rule.specs.Locks.{locked_in}
use Rattle.record_rule.proofs.KnownLocks.{locked_still}
use Rattle.record_memory.specs.declared.books.LockedWord.{LockedWord}
use Rattle.record_table.specs.Handles.{setup_of, view}
use Rattle.record_table.specs.Nodes.{origin}
use Rattle.record_pieces.specs.Events.{Event, stored_own, published_locked}
use Rattle.reclaim_api.proofs.Keeping.{held_then}
use Rattle.manager.specs.Guards.{Did}
use Rattle.manager.proofs.Locks.{locked_once}
use Rattle.set_calls.proofs.Going.{did_one, did_then}
use Rattle.list_calls.specs.Records.{target_of}
use Rattle.list_calls.proofs.Standing.{before_held, beyond_held}
use Rattle.list_calls.proofs.Filling.{may_link}
use Rattle.lazy_list.specs.Locking.{locked_to}
use Rattle.lazy_list.proofs.updating.link_locked.Goals as goal

pub store_own-requires-2-clause-payload : goal.store_own-requires-2-clause-payload
store_own-requires-2-clause-payload g c = let fits = packed_ref_fits c.target_of.result c.pack_ref.ensures.in_range in let is = c.pack_ref.ensures.number in omega arith

pub publish_locked-requires-clause-allowed : goal.publish_locked-requires-clause-allowed
publish_locked-requires-clause-allowed g c =
    let p = c.args.guard.now.caller.now.pass in let q = c.store_own.new.self.caller.now.pass in let s = c.store_own-2.new.self.caller.now.pass in
    let first = c.store_own.ensures in let second = c.store_own-2.ensures in let link = locked_to (target_of c.args.next) in
    let own_is : c.store_own-2.new.own ≡ c.args.own = second.record ∙ first.record in
    let setup : (view s).setup ≡ (view p).setup = second.pass.setup ∙ first.pass.setup in
    let keeps = held_then p q s first.keeps second.keeps in
    let manager : c.store_own-2.new.self.manager.now ≡ c.args.guard.now.manager.now = second.same_reference.1 ∙ first.same_reference.1 in
    let roots : c.args.key % (setup_of c.store_own-2.new.self.manager.now.table).roots ≡ c.args.key % (setup_of c.args.guard.now.manager.now.table).roots = (λ k. c.args.key % (setup_of (manager k).table).roots) in
    let payload : c.pack_ref.result ≡ packed_ref (target_of c.args.next) = c.pack_ref.ensures.number ∙ ap packed_ref c.target_of.ensures in
    let step = subst (λ (z : RefParts × ℕ). view s ≡ stored (view q) z.0.index 3 (packed_number z.0.generation z.1)) (λ k. (first.record k, payload k)) second.step in
    let before = before_held p s setup c.args.root keeps c.args.key c.args.before c.requires.before in
    let next = beyond_held p s setup c.args.root keeps c.args.key c.args.next c.requires.next in
    let may = may_link 2 s c.args.root c.args.key c.args.before c.args.next (setup_of c.store_own-2.new.self.manager.now.table) c.args.own (view p) (view q) link
    c.store_own-2.new.self.of.setup (roots ∙ c.requires.home.1) c.requires.key before next c.requires.own first.step step refl in
    let locked = locked_still (view p) (view s) (origin c.args.before) 3 link setup (ap (λ (ls : List LockedWord). locked_in (index_of (origin c.args.before)) 3 ls) (second.locks ∙ first.locks)) c.requires.locked in
    (link, may.0, may.1, locked, subst (λ (own : RefParts). HasOwn (view s) own may.0) (sym own_is) may.2, may.3, may.4)

pub returns-clause-did : goal.returns-clause-did
returns-clause-did g c =
    let f = c.args.guard.now in let i = c.store_own.new.self in let j = c.store_own-2.new.self in let h = c.publish_locked.new.self in
    let p = f.caller.now.pass in let s = j.caller.now.pass in
    let first = c.store_own.ensures in let second = c.store_own-2.ensures in let link = locked_to (target_of c.args.next) in
    let key_stored : Event = stored_own c.args.own 4 c.args.key in
    let link_stored : Event = stored_own c.args.own 3 (packed_ref (target_of c.args.next)) in
    let linked : Event = published_locked c.args.before 3 link c.args.own (Some (Insert c.args.key)) in
    let own_is : c.store_own-2.new.own ≡ c.args.own = second.record ∙ first.record in
    let payload : c.pack_ref.result ≡ packed_ref (target_of c.args.next) = c.pack_ref.ensures.number ∙ ap packed_ref c.target_of.ensures in
    let setup : (view s).setup ≡ (view p).setup = second.pass.setup ∙ first.pass.setup in
    let locked = locked_still (view p) (view s) (origin c.args.before) 3 link setup (ap (λ (ls : List LockedWord). locked_in (index_of (origin c.args.before)) 3 ls) (second.locks ∙ first.locks)) c.requires.locked in
    let told = c.publish_locked.ensures.did in
    let same : told.0 ≡ link = locked_once (view s) (origin c.args.before) told.0 link told.1 locked in
    let did_second = subst (λ (z : RefParts × ℕ). Did i (stored_own z.0 3 z.1) j) (λ k. (first.record k, payload k)) second.did in
    let did_third = subst (λ (z : LinkParts × RefParts). Did j (published_locked c.args.before 3 z.0 z.1 (Some (Insert c.args.key))) h) (λ k. (same k, own_is k)) told.2 in
    did_then f i h (key_stored ∷ []) (link_stored ∷ linked ∷ []) first.same_reference.1 (did_one f i key_stored first.did)
    (did_then i j h (link_stored ∷ []) (linked ∷ []) second.same_reference.1 (did_one i j link_stored did_second) (did_one j h linked did_third))
