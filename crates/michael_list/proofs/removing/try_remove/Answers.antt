use Rattle.std.proofs.Common.{◌≡◌, ◌+◌, ℕ, [], ◌∷◌, ◌++◌, List, true, false, Some, None, append_assoc, sym, ◌∙◌, subst, arith}
use Rattle.set_model.specs.declared.calls.Call.TheVariants.{Remove}
use Rattle.set_model.specs.declared.calls.LookAnswer.TheVariants.{Done as Looked, Again as LookAgain}
use Rattle.record_pieces.specs.Events.{Event, placed}
use Rattle.record_table.specs.Handles.{view}
use Rattle.record_table.specs.declared.nodes.Node.TheVariants.{At}
use Rattle.list_facts.specs.Michael.{michael}
use Rattle.set_calls.specs.Knowing.{removal, HasSeenKey}
use Rattle.set_calls.proofs.Going.{did_one, did_then, same_guards}
use Rattle.set_calls.proofs.Placed.{may_answer, read_seen}
use Rattle.set_calls.proofs.Answering.{decided_between, none_then}
use Rattle.michael_list.specs.declared.spots.Spot.TheVariants.{Present}
use Rattle.michael_list.specs.Walks.{Finds}
use Rattle.michael_list.specs.Pieces.{marks, Removings, Removes, more, takes_away, lacks_it, again}
use Rattle.michael_list.specs.Knowing.{IsSpot, absent_at}
use Rattle.list_calls.proofs.Standing.{stands_relinked}
use Rattle.michael_list.proofs.Ends.{is_spot, finds_it}
use Rattle.michael_list.proofs.removing.try_remove.Goals as goal

-- where the walk ended
missing_there : (g : _) (c : goal.After-place_absent g) → HasSeenKey c.find.new.guard.caller.now.pass c.args.key false (absent_at (view c.find.new.guard.caller.now.pass) c.in-Some-Absent.next)
missing_there g c = (is_spot c.find.new.guard.caller.now.pass c.args.root c.args.key c.in-Some-Absent.field-0-is c.in-Some-Absent.ensures.spot.1).2

spot_there : (g : _) (c : goal.After-at-1 g) → IsSpot c.find.new.guard.caller.now.pass c.args.root c.args.key (Present c.in-Some-Present.before c.in-Some-Present.at c.in-Some-Present.link)
spot_there g c = is_spot c.find.new.guard.caller.now.pass c.args.root c.args.key c.in-Some-Present.field-0-is c.in-Some-Present.ensures.spot.1

marked_there : (g : _) (c : goal.After-at-in-Some-Present-1 g) → IsSpot c.find.new.guard.caller.now.pass c.args.root c.args.key (Present c.in-Some-Present.before c.in-Some-Present.at c.in-Some-Present.link)
marked_there g c = is_spot c.find.new.guard.caller.now.pass c.args.root c.args.key c.in-Some-Present.field-0-is c.in-Some-Present.ensures.spot.1

pub place_absent-requires-clause-allowed : goal.place_absent-requires-clause-allowed
place_absent-requires-clause-allowed g c = may_answer michael c.find.new.guard.caller.now.pass (Remove c.args.key) false false
    (is_spot c.find.new.guard.caller.now.pass c.args.root c.args.key c.in-Some-Absent.field-0-is c.in-Some-Absent.ensures.spot.1).2 (λ h. h) (removal c.args.key)

pub mark-requires-clause-at : goal.mark-requires-clause-at
mark-requires-clause-at g c = let s = spot_there g c in (s.1, s.2)

pub mark-requires-clause-link : goal.mark-requires-clause-link
mark-requires-clause-link g c = let s = spot_there g c in (s.3, s.4)

pub take_out-requires-clause-before : goal.take_out-requires-clause-before
take_out-requires-clause-before g c = (stands_relinked c.find.new.guard.caller.now.pass c.mark.new.guard.caller.now.pass c.mark.ensures.same.pass.setup c.args.root (At c.in-Some-Present.at) c.mark.ensures.keeps c.in-Some-Present.before (marked_there g c).0.stands).0.there

pub take_out-requires-clause-gone : goal.take_out-requires-clause-gone
take_out-requires-clause-gone g c = (stands_relinked c.find.new.guard.caller.now.pass c.mark.new.guard.caller.now.pass c.mark.ensures.same.pass.setup c.args.root (At c.in-Some-Present.at) c.mark.ensures.keeps (At c.in-Some-Present.at) (marked_there g c).1).0.there

pub take_out-requires-clause-link : goal.take_out-requires-clause-link
take_out-requires-clause-link g c = let s = marked_there g c in (s.3, s.4)

pub take_out-requires-clause-marked : goal.take_out-requires-clause-marked
take_out-requires-clause-marked g c = c.if-not-mark.ensures.tells.1

pub returns-in-None-clause-tells : goal.returns-in-None-clause-tells
returns-in-None-clause-tells g c = c.find.ensures.on.answers

pub returns-in-None-clause-did : goal.returns-in-None-clause-did
returns-in-None-clause-did g c = let did = c.in-None.ensures.did in let end = c.in-None.ensures.spot in
    let made : c.args.hops.now + did.0 ≡ c.args.budget = (let e = did.2 in omega arith) in (
      did.1,
      did.4,
      λ ds tries. subst (λ k. Removes c.args.root c.args.key c.args.budget (LookAgain k) (ds ++ did.1)) (sym end) (again tries did.3 made),
    )

pub returns-in-Some-Absent-clause-tells : goal.returns-in-Some-Absent-clause-tells
returns-in-Some-Absent-clause-tells g c = read_seen michael c.args.guard.now.caller.now.pass c.find.new.guard.caller.now.pass c.place_absent.new.guard.caller.now.pass (Remove c.args.key) false false (missing_there g c) (λ h. h) (removal c.args.key)
    c.find.ensures.on.same.pass.setup c.find.ensures.on.answers c.place_absent.ensures.step

pub returns-in-Some-Absent-clause-did : goal.returns-in-Some-Absent-clause-did
returns-in-Some-Absent-clause-did g c = let f = c.args.guard.now in let h = c.find.new.guard in let i = c.place_absent.new.guard in let did = c.in-Some-Absent.ensures.did in
    let v = view h.caller.now.pass in let e : Event = placed (Remove c.args.key) false (absent_at v c.in-Some-Absent.next) in let finds = finds_it v c.args.root c.args.key did.0 did.1 c.in-Some-Absent.field-0-is did.3 in (
      did.1 ++ e ∷ [],
      did_then f h i did.1 (e ∷ []) c.find.ensures.on.same.manager did.4 (did_one h i e c.place_absent.ensures.did),
      λ ds tries. subst (λ l. Removes c.args.root c.args.key c.args.budget (Looked false) l) (append_assoc ds did.1 (e ∷ [])) (lacks_it tries finds (let n = did.2 in let l = c.find.ensures.hops in omega arith)),
    )

pub returns-then-not-mark-clause-same : goal.returns-then-not-mark-clause-same
returns-then-not-mark-clause-same g c = same_guards c.args.guard.now c.find.new.guard c.mark.new.guard c.find.ensures.on.same c.mark.ensures.same

pub returns-then-not-mark-clause-tells : goal.returns-then-not-mark-clause-tells
returns-then-not-mark-clause-tells g c = (c.in-Some-Present.ensures.spot.0, none_then (view c.args.guard.now.caller.now.pass) (view c.find.new.guard.caller.now.pass) (view c.mark.new.guard.caller.now.pass) c.find.ensures.on.answers c.if-not-mark.ensures.tells)

pub returns-then-not-mark-clause-did : goal.returns-then-not-mark-clause-did
returns-then-not-mark-clause-did g c = let f = c.args.guard.now in let h = c.find.new.guard in let i = c.mark.new.guard in let did = c.in-Some-Present.ensures.did in
    let root = c.args.root in let key = c.args.key in let at = c.in-Some-Present.at in let link = c.in-Some-Present.link in let refused = c.if-not-mark.ensures.did in
    let finds : Finds key root did.0 (Some (Present c.in-Some-Present.before at link)) (Some (view h.caller.now.pass).own.updates_seen) did.1 = finds_it (view h.caller.now.pass) root key did.0 did.1 c.in-Some-Present.field-0-is did.3 in
    let mark = marks key at link (Some refused.0) in (
      did.1 ++ mark,
      did_then f h i did.1 mark c.find.ensures.on.same.manager did.4 refused.1,
      λ ds tries. subst (λ (z : ℕ × List Event). Removings root key z.0 z.1) (λ k. (sym did.2 k, append_assoc ds did.1 mark k)) (more refused.0 tries finds),
    )

pub returns-else-not-mark-clause-same : goal.returns-else-not-mark-clause-same
returns-else-not-mark-clause-same g c = same_guards c.args.guard.now c.find.new.guard c.take_out.new.guard c.find.ensures.on.same
    (same_guards c.find.new.guard c.mark.new.guard c.take_out.new.guard c.mark.ensures.same c.take_out.ensures.on.same)

pub returns-else-not-mark-clause-tells : goal.returns-else-not-mark-clause-tells
returns-else-not-mark-clause-tells g c = decided_between (view c.args.guard.now.caller.now.pass) (view c.find.new.guard.caller.now.pass) (view c.mark.new.guard.caller.now.pass) (view c.take_out.new.guard.caller.now.pass) (Remove c.args.key)
    c.find.ensures.on.same.pass.caller c.find.ensures.on.answers c.if-not-mark.ensures.tells.0 c.take_out.ensures.on.answers

pub returns-else-not-mark-clause-did : goal.returns-else-not-mark-clause-did
returns-else-not-mark-clause-did g c = let f = c.args.guard.now in let h = c.find.new.guard in let i = c.mark.new.guard in let j = c.take_out.new.guard in let did = c.in-Some-Present.ensures.did in
    let root = c.args.root in let key = c.args.key in let at = c.in-Some-Present.at in let link = c.in-Some-Present.link in let out = c.take_out.ensures.did in
    let finds : Finds key root did.0 (Some (Present c.in-Some-Present.before at link)) (Some (view h.caller.now.pass).own.updates_seen) did.1 = finds_it (view h.caller.now.pass) root key did.0 did.1 c.in-Some-Present.field-0-is did.3 in
    let mark = marks key at link None in (
      did.1 ++ (mark ++ out.0),
      did_then f h j did.1 (mark ++ out.0) c.find.ensures.on.same.manager did.4 (did_then h i j mark out.0 c.mark.ensures.same.manager c.if-not-mark.ensures.did out.2),
      λ ds tries. subst (λ l. Removes root key c.args.budget (Looked true) l) (append_assoc (ds ++ did.1) mark out.0 ∙ append_assoc ds did.1 (mark ++ out.0)) (takes_away tries finds out.1 (let n = did.2 in let l = c.find.ensures.hops in omega arith)),
    )
