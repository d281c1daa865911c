use Rattle.std.proofs.Common.{[], ◌∷◌, ◌++◌, Some, None, true, false, sym, subst}
use Rattle.set_model.specs.declared.calls.Call.TheVariants.{Insert}
use Rattle.record_table.specs.Handles.{view}
use Rattle.record_pieces.specs.Events.{Event, took, refused, gave_back, placed}
use Rattle.manager.specs.Guards.{Did}
use Rattle.one_key_facts.specs.OneKey.{one_key}
use Rattle.set_calls.specs.Knowing.{insertion, HasSeenKey}
use Rattle.set_calls.specs.Answers.{Read}
use Rattle.set_calls.proofs.Going.{did_one, did_then}
use Rattle.set_calls.proofs.Placed.{may_answer, read_seen}
use Rattle.one_key_set.specs.Pieces.{links, adds, has_it, is_full, is_refused, has_changed}
use Rattle.one_key_set.proofs.calls.try_insert.Goals as goal

pub place_seen-requires-clause-allowed : goal.place_seen-requires-clause-allowed
place_seen-requires-clause-allowed g c = let u = c.look.new.guard.caller.now.pass in
    may_answer one_key u (Insert c.from.result) true false (subst (λ k. HasSeenKey u k true (view u).own.updates_seen) (sym c.from.ensures) c.in-Present.ensures.seen.1) (λ h. h) (insertion c.from.result)

pub returns-in-Present-clause-tells : goal.returns-in-Present-clause-tells
returns-in-Present-clause-tells g c = let p = c.args.guard.now.caller.now.pass in let u = c.look.new.guard.caller.now.pass in let q = c.place_seen.new.guard.caller.now.pass in let on = c.in-Present.ensures.on in
    subst (λ k. Read (Insert k) false (view p) (view q)) c.from.ensures
    (read_seen one_key p u q (Insert c.from.result) true false (subst (λ k. HasSeenKey u k true (view u).own.updates_seen) (sym c.from.ensures) c.in-Present.ensures.seen.1) (λ h. h) (insertion c.from.result) on.same.pass.setup on.answers c.place_seen.ensures.step)

pub returns-in-Present-clause-did : goal.returns-in-Present-clause-did
returns-in-Present-clause-did g c = let f = c.args.guard.now in let h = c.look.new.guard in let i = c.place_seen.new.guard in let did = c.in-Present.ensures.did in let seen = (view h.caller.now.pass).own.updates_seen in
    let e : Event = placed (Insert c.args.key) false seen in
    (did.0 ++ e ∷ [], has_it did.1, did_then f h i did.0 (e ∷ []) c.look.ensures.on.same.manager did.2 (did_one h i e (subst (λ k. Did h (placed (Insert k) false seen) i) c.from.ensures c.place_seen.ensures.did)))

pub returns-then-link_record-clause-did : goal.returns-then-link_record-clause-did
returns-then-link_record-clause-did g c = let f = c.args.guard.now in let h = c.look.new.guard in let i = c.fresh.new.self in let j = c.link_record.new.guard in let did = c.in-Absent.ensures.did in let own = c.in-Ok.own in
    let es = links c.args.key own None in (
      did.0 ++ took own ∷ es,
      adds own did.1,
      did_then f h j did.0 (took own ∷ es) c.look.ensures.on.same.manager did.2 (did_then h i j (took own ∷ []) es c.in-Ok.ensures.same_reference.1 (did_one h i (took own) c.in-Ok.ensures.did) c.if-link_record.ensures.did),
    )

pub returns-else-link_record-clause-did : goal.returns-else-link_record-clause-did
returns-else-link_record-clause-did g c = let f = c.args.guard.now in let h = c.look.new.guard in let i = c.fresh.new.self in let j = c.link_record.new.guard in let did = c.in-Absent.ensures.did in let own = c.in-Ok.own in
    let late = c.if-link_record.ensures.did in let es = links c.args.key own (Some late.0) ++ gave_back own ∷ [] in (
      did.0 ++ took own ∷ es,
      is_refused own late.0 did.1,
      did_then f h j did.0 (took own ∷ es) c.look.ensures.on.same.manager did.2 (did_then h i j (took own ∷ []) es c.in-Ok.ensures.same_reference.1 (did_one h i (took own) c.in-Ok.ensures.did) late.1),
    )

pub returns-in-Err-clause-did : goal.returns-in-Err-clause-did
returns-in-Err-clause-did g c = let f = c.args.guard.now in let h = c.look.new.guard in let i = c.fresh.new.self in let did = c.in-Absent.ensures.did in let e : Event = refused c.in-Err.none.found in
    (did.0 ++ e ∷ [], is_full did.1, did_then f h i did.0 (e ∷ []) c.look.ensures.on.same.manager did.2 (did_one h i e c.in-Err.ensures.did))

pub returns-in-Changed-clause-did : goal.returns-in-Changed-clause-did
returns-in-Changed-clause-did g c = let did = c.in-Changed.ensures.did in (did.0, has_changed did.1, did.2)
