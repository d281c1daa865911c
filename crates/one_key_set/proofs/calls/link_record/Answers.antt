use Rattle.std.proofs.Common.{[], ◌∷◌, Some, None, ◌∙◌, subst, arith}
use Rattle.row_words.specs.Refs.{RefParts}
use Rattle.record_pieces.specs.Events.{gave_back}
use Rattle.manager.specs.Guards.{Did}
use Rattle.set_calls.proofs.Going.{did_one, did_then}
use Rattle.one_key_set.specs.Pieces.{links}
use Rattle.one_key_set.proofs.Doing.{three_did}
use Rattle.record_table.specs.Handles.{view}
use Rattle.one_key_set.proofs.Filling.{low, may_link}
use Rattle.one_key_set.proofs.calls.link_record.Goals as goal

pub store_own-requires-2-clause-payload : goal.store_own-requires-2-clause-payload
store_own-requires-2-clause-payload g c = low c.pack_ref.result c.pack_ref.ensures.number

pub publish-requires-clause-allowed : goal.publish-requires-clause-allowed
publish-requires-clause-allowed g c = may_link (view c.args.guard.now.caller.now.pass) (view c.store_own.new.self.caller.now.pass) (view c.store_own-2.new.self.caller.now.pass) c.args.own c.store_own.new.own c.store_own-2.new.own c.args.key c.from-number.result c.pack_ref.result c.to.result
    c.store_own.ensures.record c.store_own-2.ensures.record c.from-number.ensures c.pack_ref.ensures.number c.to.ensures.link (let f = c.ranges.key.fits in omega arith) c.requires.own c.store_own.ensures.step c.store_own-2.ensures.step

pub returns-in-Ok-clause-did : goal.returns-in-Ok-clause-did
returns-in-Ok-clause-did g c = let first = c.store_own.ensures in let second = c.store_own-2.ensures in
    three_did c.args.guard.now c.store_own.new.self c.store_own-2.new.self c.publish.new.self c.args.key c.from-number.result c.pack_ref.result c.args.own c.store_own.new.own c.store_own-2.new.own c.to.result None
    c.from-number.ensures c.pack_ref.ensures.number first.record (second.record ∙ first.record) c.to.ensures.link first.same_reference.1 second.same_reference.1 first.did second.did c.in-Ok.ensures.did

pub returns-in-Err-clause-did : goal.returns-in-Err-clause-did
returns-in-Err-clause-did g c = let first = c.store_own.ensures in let second = c.store_own-2.ensures in
    let f = c.args.guard.now in let h = c.publish.new.self in let i = c.give_back.new.self in let other = c.in-Err.field-0-1.link in
    let filled = three_did f c.store_own.new.self c.store_own-2.new.self h c.args.key c.from-number.result c.pack_ref.result c.args.own c.store_own.new.own c.store_own-2.new.own c.to.result (Some other)
    c.from-number.ensures c.pack_ref.ensures.number first.record (second.record ∙ first.record) c.to.ensures.link first.same_reference.1 second.same_reference.1 first.did second.did c.in-Err.ensures.did in
    let back = subst (λ (own : RefParts). Did h (gave_back own) i) (c.in-Err.ensures.step.0 ∙ second.record ∙ first.record) c.give_back.ensures.did in
    (other, did_then f h i (links c.args.key c.args.own (Some other)) (gave_back c.args.own ∷ []) (c.in-Err.ensures.same_reference.1 ∙ second.same_reference.1 ∙ first.same_reference.1) filled (did_one h i (gave_back c.args.own) back))
