use Rattle.std.proofs.Common.{[], ◌∷◌, ◌++◌, List, Bool, Some, sym, subst}
use Rattle.set_model.specs.declared.calls.Call.TheVariants.{Search}
use Rattle.record_table.specs.Handles.{view}
use Rattle.record_pieces.specs.Events.{Event, placed}
use Rattle.manager.specs.Guards.{Did, DidAll}
use Rattle.one_key_facts.specs.OneKey.{one_key}
use Rattle.set_calls.specs.Knowing.{search_, HasSeenKey}
use Rattle.set_calls.specs.Answers.{Read}
use Rattle.set_calls.proofs.Going.{did_one, did_then}
use Rattle.set_calls.proofs.Placed.{may_answer, read_seen}
use Rattle.one_key_set.specs.Pieces.{Searches, sees, lacks_it, has_changed}
use Rattle.one_key_set.proofs.calls.try_search.Goals as goal
use Rattle.one_key_set.proofs.calls.try_search.Goals.{in-Absent, in-Present}

pub place_seen-requires-clause-allowed : goal.place_seen-requires-clause-allowed
place_seen-requires-clause-allowed g c = let u = c.look.new.guard.caller.now.pass in let found = c.match-look.found in
    may_answer one_key u (Search c.from.result) found found (subst (λ k. HasSeenKey u k found (view u).own.updates_seen) (sym c.from.ensures) (elim c.match-look.branch [
      | in-Absent w ↦ subst (λ b. HasSeenKey u c.args.key b (view u).own.updates_seen) (sym w.found-is) w.in-Absent.ensures.seen
      | in-Present w ↦ subst (λ b. HasSeenKey u c.args.key b (view u).own.updates_seen) (sym w.found-is) w.in-Present.ensures.seen.1
    ])) (λ h. h) (search_ c.from.result found)

pub returns-clause-tells : goal.returns-clause-tells
returns-clause-tells g c = let p = c.args.guard.now.caller.now.pass in let u = c.look.new.guard.caller.now.pass in let q = c.place_seen.new.guard.caller.now.pass in let found = c.match-look.found in let on = c.look.ensures.on in
    let seen : HasSeenKey u c.args.key found (view u).own.updates_seen = elim c.match-look.branch [
      | in-Absent w ↦ subst (λ b. HasSeenKey u c.args.key b (view u).own.updates_seen) (sym w.found-is) w.in-Absent.ensures.seen
      | in-Present w ↦ subst (λ b. HasSeenKey u c.args.key b (view u).own.updates_seen) (sym w.found-is) w.in-Present.ensures.seen.1
    ] in
    subst (λ k. Read (Search k) found (view p) (view q)) c.from.ensures
    (read_seen one_key p u q (Search c.from.result) found found (subst (λ k. HasSeenKey u k found (view u).own.updates_seen) (sym c.from.ensures) seen) (λ h. h) (search_ c.from.result found) on.same.pass.setup on.answers c.place_seen.ensures.step)

-- the look, with the read behind it
looked_and_placed : (g : _) (c : goal.After-place_seen g) → (es : List Event) × DidAll c.args.guard.now es c.look.new.guard × Searches c.args.key (Some c.match-look.found) (es ++ placed (Search c.args.key) c.match-look.found (view c.look.new.guard.caller.now.pass).own.updates_seen ∷ [])
looked_and_placed g c = let n = (view c.look.new.guard.caller.now.pass).own.updates_seen in elim c.match-look.branch [
  | in-Absent w ↦ let did = w.in-Absent.ensures.did in (did.0, did.2, subst (λ (b : Bool). Searches c.args.key (Some b) (did.0 ++ placed (Search c.args.key) b n ∷ [])) (sym w.found-is) (lacks_it did.1))
  | in-Present w ↦ let did = w.in-Present.ensures.did in (did.0, did.2, subst (λ (b : Bool). Searches c.args.key (Some b) (did.0 ++ placed (Search c.args.key) b n ∷ [])) (sym w.found-is) (sees did.1))
]

pub returns-clause-did : goal.returns-clause-did
returns-clause-did g c = let f = c.args.guard.now in let h = c.look.new.guard in let i = c.place_seen.new.guard in let found = c.match-look.found in let n = (view h.caller.now.pass).own.updates_seen in let did = looked_and_placed g c in
    let e : Event = placed (Search c.args.key) found n in
    (did.0 ++ e ∷ [], did.2, did_then f h i did.0 (e ∷ []) c.look.ensures.on.same.manager did.1 (did_one h i e (subst (λ k. Did h (placed (Search k) found n) i) c.from.ensures c.place_seen.ensures.did)))

pub returns-in-Changed-clause-did : goal.returns-in-Changed-clause-did
returns-in-Changed-clause-did g c = let did = c.in-Changed.ensures.did in (did.0, has_changed did.1, did.2)
