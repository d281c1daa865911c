use Rattle.std.proofs.Common.{List, [], ◌∷◌, ◌++◌, Some, None, sym, true, false, ◌∙◌, subst}
use Rattle.set_model.specs.declared.calls.Call.TheVariants.{Insert}
use Rattle.record_table.specs.Handles.{view}
use Rattle.record_pieces.specs.Events.{Event, placed, refused}
use Rattle.list_facts.specs.Michael.{michael}
use Rattle.set_calls.specs.Knowing.{insertion, HasSeenKey}
use Rattle.set_calls.proofs.Going.{did_one, did_then}
use Rattle.set_calls.proofs.Placed.{may_answer, read_seen}
use Rattle.set_calls.proofs.Answering.{none_then}
use Rattle.michael_list.specs.declared.spots.Spot.{Spot}
use Rattle.michael_list.specs.declared.spots.Spot.TheVariants.{Present}
use Rattle.michael_list.specs.Walks.{Finds}
use Rattle.list_calls.specs.Records.{back}
use Rattle.michael_list.specs.Pieces.{links}
use Rattle.michael_list.specs.Knowing.{IsSpot, shown_at}
use Rattle.list_calls.proofs.Standing.{before_held, seen_held, beyond_held}
use Rattle.michael_list.proofs.Inserted.{no_hops_left, key_was_there, none_was_left, was_linked, was_refused}
use Rattle.michael_list.proofs.inserting.try_insert.Goals as goal

pub place_seen-requires-clause-allowed : goal.place_seen-requires-clause-allowed
place_seen-requires-clause-allowed g c = let back_is = c.give_back-in-Some-Present.ensures in
    let spot = subst (λ (s : Spot). IsSpot c.find.new.guard.caller.now.pass c.args.root c.args.key s) c.in-Some-Present.field-0-is c.in-Some-Present.ensures.spot.1 in
    may_answer michael c.give_back-in-Some-Present.new.guard.caller.now.pass (Insert c.args.key) true false
    (subst (HasSeenKey c.give_back-in-Some-Present.new.guard.caller.now.pass c.args.key true) (sym back_is.seen)
    (seen_held c.find.new.guard.caller.now.pass c.give_back-in-Some-Present.new.guard.caller.now.pass back_is.same.pass.setup c.args.root back_is.keeps back_is.answers c.args.key true spot.5)) (λ h. h) (insertion c.args.key)

pub link_record-requires-clause-before : goal.link_record-requires-clause-before
link_record-requires-clause-before g c = let took_is = c.take_record.ensures in
    let spot = subst (λ (s : Spot). IsSpot c.find.new.guard.caller.now.pass c.args.root c.args.key s) c.in-Some-Absent.field-0-is c.in-Some-Absent.ensures.spot.1 in
    before_held c.find.new.guard.caller.now.pass c.take_record.new.guard.caller.now.pass took_is.on.same.pass.setup c.args.root took_is.keeps c.args.key c.in-Some-Absent.before spot.0

pub link_record-requires-clause-next : goal.link_record-requires-clause-next
link_record-requires-clause-next g c = let took_is = c.take_record.ensures in
    let spot = subst (λ (s : Spot). IsSpot c.find.new.guard.caller.now.pass c.args.root c.args.key s) c.in-Some-Absent.field-0-is c.in-Some-Absent.ensures.spot.1 in
    beyond_held c.find.new.guard.caller.now.pass c.take_record.new.guard.caller.now.pass took_is.on.same.pass.setup c.args.root took_is.keeps c.args.key c.in-Some-Absent.next spot.1

pub returns-in-None-clause-did : goal.returns-in-None-clause-did
returns-in-None-clause-did g c =
    let f = c.args.guard.now in let h = c.find.new.guard in let i = c.give_back.new.guard in let did = c.in-None.ensures.did in (
      did.1 ++ back c.args.hand,
      did_then f h i did.1 (back c.args.hand) c.find.ensures.on.same.manager did.4 c.give_back.ensures.did,
      λ ds tries. no_hops_left c.args.root c.args.key c.args.budget c.args.hops.now c.find.new.hops did.0 did.2 c.args.hand ds did.1 c.in-None.ensures.spot tries did.3,
    )

pub returns-in-Some-Present-clause-tells : goal.returns-in-Some-Present-clause-tells
returns-in-Some-Present-clause-tells g c =
    let spot = subst (λ (s : Spot). IsSpot c.find.new.guard.caller.now.pass c.args.root c.args.key s) c.in-Some-Present.field-0-is c.in-Some-Present.ensures.spot.1 in
    let p = c.args.guard.now.caller.now.pass in let found = c.find.new.guard.caller.now.pass in let q = c.give_back-in-Some-Present.new.guard.caller.now.pass in
    let on = c.find.ensures.on in let back_is = c.give_back-in-Some-Present.ensures in
    let seen = subst (HasSeenKey q c.args.key true) (sym back_is.seen) (seen_held found q back_is.same.pass.setup c.args.root back_is.keeps back_is.answers c.args.key true spot.5) in
    read_seen michael p q c.place_seen.new.guard.caller.now.pass (Insert c.args.key) true false seen (λ h. h) (insertion c.args.key) (back_is.same.pass.setup ∙ on.same.pass.setup) (none_then (view p) (view found) (view q) on.answers back_is.answers) c.place_seen.ensures.step

pub returns-in-Some-Present-clause-did : goal.returns-in-Some-Present-clause-did
returns-in-Some-Present-clause-did g c =
    let f = c.args.guard.now in let h = c.find.new.guard in let i = c.give_back-in-Some-Present.new.guard in let j = c.place_seen.new.guard in let did = c.in-Some-Present.ensures.did in
    let finds = subst (λ (s : Spot). Finds c.args.key c.args.root did.0 (Some s) (Some (shown_at (view h.caller.now.pass) s)) did.1) c.in-Some-Present.field-0-is did.3 in
    let kept = c.give_back-in-Some-Present.ensures.seen in let found = subst (λ k. Finds c.args.key c.args.root did.0 (Some (Present c.in-Some-Present.field-0-0 c.in-Some-Present.field-0-1 c.in-Some-Present.field-0-2)) (Some k) did.1) (sym kept) finds in
    let e : Event = placed (Insert c.args.key) false (view i.caller.now.pass).own.updates_seen in (
      did.1 ++ (back c.args.hand ++ e ∷ []),
      did_then f h j did.1 (back c.args.hand ++ e ∷ []) c.find.ensures.on.same.manager did.4
          (did_then h i j (back c.args.hand) (e ∷ []) c.give_back-in-Some-Present.ensures.same.manager c.give_back-in-Some-Present.ensures.did (did_one i j e c.place_seen.ensures.did)),
      λ ds tries. key_was_there c.args.root c.args.key c.args.budget c.args.hops.now c.find.new.hops did.0 did.2 c.args.hand c.in-Some-Present.field-0-0 c.in-Some-Present.field-0-1 c.in-Some-Present.field-0-2 ds did.1 (view i.caller.now.pass).own.updates_seen c.find.ensures.hops tries found,
    )

pub returns-in-Ok-link_record-clause-did : goal.returns-in-Ok-link_record-clause-did
returns-in-Ok-link_record-clause-did g c =
    let f = c.args.guard.now in let h = c.find.new.guard in let i = c.take_record.new.guard in let j = c.link_record.new.guard in
    let did = c.in-Some-Absent.ensures.did in let had = c.in-Ok.ensures.did in let before = c.in-Some-Absent.before in let next = c.in-Some-Absent.next in let own = c.in-Ok.own in
    let finds = subst (λ (s : Spot). Finds c.args.key c.args.root did.0 (Some s) (Some (shown_at (view h.caller.now.pass) s)) did.1) c.in-Some-Absent.field-0-is did.3 in
    let es : List Event = links c.args.key before next own None in (
      did.1 ++ (had.0 ++ es),
      did_then f h j did.1 (had.0 ++ es) c.find.ensures.on.same.manager did.4 (did_then h i j had.0 es c.take_record.ensures.on.same.manager had.2 c.in-Ok-link_record.ensures.did),
      λ ds tries. was_linked c.args.root c.args.key c.args.budget c.args.hops.now c.find.new.hops did.0 did.2 c.args.hand before next ds did.1 _ c.find.ensures.hops tries finds own had.0 had.1,
    )

pub returns-in-Err-link_record-clause-did : goal.returns-in-Err-link_record-clause-did
returns-in-Err-link_record-clause-did g c =
    let f = c.args.guard.now in let h = c.find.new.guard in let i = c.take_record.new.guard in let j = c.link_record.new.guard in
    let did = c.in-Some-Absent.ensures.did in let had = c.in-Ok.ensures.did in let before = c.in-Some-Absent.before in let next = c.in-Some-Absent.next in let own = c.in-Ok.own in
    let finds = subst (λ (s : Spot). Finds c.args.key c.args.root did.0 (Some s) (Some (shown_at (view h.caller.now.pass) s)) did.1) c.in-Some-Absent.field-0-is did.3 in
    let other = c.in-Err-link_record.ensures.did.0 in let es : List Event = links c.args.key before next own (Some other) in (
      did.1 ++ (had.0 ++ es),
      did_then f h j did.1 (had.0 ++ es) c.find.ensures.on.same.manager did.4 (did_then h i j had.0 es c.take_record.ensures.on.same.manager had.2 c.in-Err-link_record.ensures.did.1),
      λ ds tries. was_refused c.args.root c.args.key c.args.budget c.args.hops.now c.find.new.hops did.0 did.2 c.args.hand before next ds did.1 _ c.find.ensures.hops tries finds own c.in-Err-link_record.own had.0 other c.in-Err-link_record.ensures.tells.0 had.1,
    )

pub returns-in-Err-clause-did : goal.returns-in-Err-clause-did
returns-in-Err-clause-did g c =
    let f = c.args.guard.now in let h = c.find.new.guard in let i = c.take_record.new.guard in
    let did = c.in-Some-Absent.ensures.did in let left = c.in-Err.ensures.did in
    let finds = subst (λ (s : Spot). Finds c.args.key c.args.root did.0 (Some s) (Some (shown_at (view h.caller.now.pass) s)) did.1) c.in-Some-Absent.field-0-is did.3 in
    let e : Event = refused c.in-Err.none.found in (
      did.1 ++ e ∷ [],
      did_then f h i did.1 (e ∷ []) c.find.ensures.on.same.manager did.4 (did_one h i e left.1),
      λ ds tries. none_was_left c.args.root c.args.key c.args.budget c.args.hops.now c.find.new.hops did.0 did.2 c.args.hand c.in-Some-Absent.before c.in-Some-Absent.next ds did.1 _ c.find.ensures.hops tries finds c.in-Err.none.found left.0,
    )
