use Rattle.std.proofs.Common.{[], ◌∷◌, ◌++◌, Some, None, false, sym, subst}
use Rattle.set_model.specs.declared.calls.Call.TheVariants.{Remove}
use Rattle.record_table.specs.Handles.{view}
use Rattle.record_pieces.specs.Events.{Event, placed}
use Rattle.manager.specs.Guards.{Did}
use Rattle.one_key_facts.specs.OneKey.{one_key}
use Rattle.set_calls.specs.Knowing.{removal, HasSeenKey}
use Rattle.set_calls.specs.Answers.{Read}
use Rattle.set_calls.proofs.Going.{did_one, did_then}
use Rattle.set_calls.proofs.Placed.{may_answer, read_seen}
use Rattle.one_key_set.specs.Pieces.{marks, takes_away, lacks_it, is_refused, has_changed}
use Rattle.one_key_set.proofs.calls.try_remove.Goals as goal

pub place_seen-requires-clause-allowed : goal.place_seen-requires-clause-allowed
place_seen-requires-clause-allowed g c = let u = c.look.new.guard.caller.now.pass in
    may_answer one_key u (Remove c.from.result) false false (subst (λ k. HasSeenKey u k false (view u).own.updates_seen) (sym c.from.ensures) c.in-Absent.ensures.seen) (λ h. h) (removal c.from.result)

pub returns-in-Absent-clause-tells : goal.returns-in-Absent-clause-tells
returns-in-Absent-clause-tells g c = let p = c.args.guard.now.caller.now.pass in let u = c.look.new.guard.caller.now.pass in let q = c.place_seen.new.guard.caller.now.pass in let on = c.in-Absent.ensures.on in
    subst (λ k. Read (Remove k) false (view p) (view q)) c.from.ensures
    (read_seen one_key p u q (Remove c.from.result) false false (subst (λ k. HasSeenKey u k false (view u).own.updates_seen) (sym c.from.ensures) c.in-Absent.ensures.seen) (λ h. h) (removal c.from.result) on.same.pass.setup on.answers c.place_seen.ensures.step)

pub returns-in-Absent-clause-did : goal.returns-in-Absent-clause-did
returns-in-Absent-clause-did g c = let f = c.args.guard.now in let h = c.look.new.guard in let i = c.place_seen.new.guard in let did = c.in-Absent.ensures.did in let seen = (view h.caller.now.pass).own.updates_seen in
    let e : Event = placed (Remove c.args.key) false seen in
    (did.0 ++ e ∷ [], lacks_it did.1, did_then f h i did.0 (e ∷ []) c.look.ensures.on.same.manager did.2 (did_one h i e (subst (λ k. Did h (placed (Remove k) false seen) i) c.from.ensures c.place_seen.ensures.did)))

pub returns-then-mark-clause-did : goal.returns-then-mark-clause-did
returns-then-mark-clause-did g c = let f = c.args.guard.now in let h = c.look.new.guard in let i = c.mark.new.guard in let did = c.in-Present.ensures.did in let at = c.in-Present.at in let out = c.if-mark.ensures.did in
    (did.0 ++ (marks c.args.key at None ++ out.0), takes_away did.1 out.1, did_then f h i did.0 (marks c.args.key at None ++ out.0) c.look.ensures.on.same.manager did.2 out.2)

pub returns-else-mark-clause-did : goal.returns-else-mark-clause-did
returns-else-mark-clause-did g c = let f = c.args.guard.now in let h = c.look.new.guard in let i = c.mark.new.guard in let did = c.in-Present.ensures.did in let at = c.in-Present.at in let late = c.if-mark.ensures.did in
    (did.0 ++ marks c.args.key at (Some late.0), is_refused late.0 did.1, did_then f h i did.0 (marks c.args.key at (Some late.0)) c.look.ensures.on.same.manager did.2 late.1)

pub returns-in-Changed-clause-did : goal.returns-in-Changed-clause-did
returns-in-Changed-clause-did g c = let did = c.in-Changed.ensures.did in (did.0, has_changed did.1, did.2)
