use Rattle.std.proofs.Common.{◌≡◌, [], ◌∷◌, ◌++◌, true, false, None, sym, subst, arith}
use Rattle.set_model.specs.declared.calls.Call.TheVariants.{Search}
use Rattle.set_model.specs.declared.calls.LookAnswer.TheVariants.{Again as LookAgain}
use Rattle.record_pieces.specs.Events.{Event, placed}
use Rattle.record_table.specs.Handles.{view}
use Rattle.list_facts.specs.Michael.{michael}
use Rattle.set_calls.specs.Knowing.{search_, HasSeenKey}
use Rattle.set_calls.proofs.Going.{did_one, did_then}
use Rattle.set_calls.proofs.Placed.{may_answer, read_seen}
use Rattle.michael_list.specs.Walks.{Finds}
use Rattle.michael_list.specs.Pieces.{Searches, sees, lacks_it, again}
use Rattle.michael_list.specs.Knowing.{absent_at}
use Rattle.michael_list.proofs.Ends.{is_spot, finds_it}
use Rattle.michael_list.proofs.removing.search.Goals as goal

-- what the walk saw of the key
seen_there : (g : _) (c : goal.After-place_seen g) → HasSeenKey c.find.new.guard.caller.now.pass c.args.key true (view c.find.new.guard.caller.now.pass).own.updates_seen
seen_there g c = (is_spot c.find.new.guard.caller.now.pass c.args.root c.args.key c.in-Some-Present.field-0-is c.in-Some-Present.ensures.spot.1).5

seen_missing : (g : _) (c : goal.After-place_absent g) → HasSeenKey c.find.new.guard.caller.now.pass c.args.key false (absent_at (view c.find.new.guard.caller.now.pass) c.in-Some-Absent.next)
seen_missing g c = (is_spot c.find.new.guard.caller.now.pass c.args.root c.args.key c.in-Some-Absent.field-0-is c.in-Some-Absent.ensures.spot.1).2

pub place_seen-requires-clause-allowed : goal.place_seen-requires-clause-allowed
place_seen-requires-clause-allowed g c = may_answer michael c.find.new.guard.caller.now.pass (Search c.args.key) true true
    (is_spot c.find.new.guard.caller.now.pass c.args.root c.args.key c.in-Some-Present.field-0-is c.in-Some-Present.ensures.spot.1).5 (λ h. h) (search_ c.args.key true)

pub place_absent-requires-clause-allowed : goal.place_absent-requires-clause-allowed
place_absent-requires-clause-allowed g c = may_answer michael c.find.new.guard.caller.now.pass (Search c.args.key) false false
    (is_spot c.find.new.guard.caller.now.pass c.args.root c.args.key c.in-Some-Absent.field-0-is c.in-Some-Absent.ensures.spot.1).2 (λ h. h) (search_ c.args.key false)

pub returns-in-None-clause-did : goal.returns-in-None-clause-did
returns-in-None-clause-did g c = let did = c.in-None.ensures.did in let end = c.in-None.ensures.spot in
    let made : did.0 ≡ c.args.budget = (let e = did.2 in omega arith) in (
      did.1,
      subst (λ k. Searches c.args.root c.args.key c.args.budget (LookAgain k) did.1) (sym end) (again (subst (λ k. Finds c.args.key c.args.root k None None did.1) made did.3)),
      did.4,
    )

pub returns-in-Some-Present-clause-tells : goal.returns-in-Some-Present-clause-tells
returns-in-Some-Present-clause-tells g c = read_seen michael c.args.guard.now.caller.now.pass c.find.new.guard.caller.now.pass c.place_seen.new.guard.caller.now.pass (Search c.args.key) true true (seen_there g c) (λ h. h) (search_ c.args.key true)
    c.find.ensures.on.same.pass.setup c.find.ensures.on.answers c.place_seen.ensures.step

pub returns-in-Some-Present-clause-did : goal.returns-in-Some-Present-clause-did
returns-in-Some-Present-clause-did g c = let f = c.args.guard.now in let h = c.find.new.guard in let i = c.place_seen.new.guard in let did = c.in-Some-Present.ensures.did in
    let v = view h.caller.now.pass in let e : Event = placed (Search c.args.key) true v.own.updates_seen in let finds = finds_it v c.args.root c.args.key did.0 did.1 c.in-Some-Present.field-0-is did.3 in (
      did.1 ++ e ∷ [],
      sees finds (let n = did.2 in let l = c.find.ensures.hops in omega arith),
      did_then f h i did.1 (e ∷ []) c.find.ensures.on.same.manager did.4 (did_one h i e c.place_seen.ensures.did),
    )

pub returns-in-Some-Absent-clause-tells : goal.returns-in-Some-Absent-clause-tells
returns-in-Some-Absent-clause-tells g c = read_seen michael c.args.guard.now.caller.now.pass c.find.new.guard.caller.now.pass c.place_absent.new.guard.caller.now.pass (Search c.args.key) false false (seen_missing g c) (λ h. h) (search_ c.args.key false)
    c.find.ensures.on.same.pass.setup c.find.ensures.on.answers c.place_absent.ensures.step

pub returns-in-Some-Absent-clause-did : goal.returns-in-Some-Absent-clause-did
returns-in-Some-Absent-clause-did g c = let f = c.args.guard.now in let h = c.find.new.guard in let i = c.place_absent.new.guard in let did = c.in-Some-Absent.ensures.did in
    let v = view h.caller.now.pass in let e : Event = placed (Search c.args.key) false (absent_at v c.in-Some-Absent.next) in let finds = finds_it v c.args.root c.args.key did.0 did.1 c.in-Some-Absent.field-0-is did.3 in (
      did.1 ++ e ∷ [],
      lacks_it finds (let n = did.2 in let l = c.find.ensures.hops in omega arith),
      did_then f h i did.1 (e ∷ []) c.find.ensures.on.same.manager did.4 (did_one h i e c.place_absent.ensures.did),
    )
