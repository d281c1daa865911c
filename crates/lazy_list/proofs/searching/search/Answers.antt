use Rattle.std.proofs.Common.{◌≡◌, [], ◌∷◌, ◌++◌, max, true, false, None, refl, sym, ◌∙◌, subst, arith}
use Rattle.set_model.specs.declared.calls.Call.TheVariants.{Search}
use Rattle.set_model.specs.declared.calls.LookAnswer.TheVariants.{Again as LookAgain}
use Rattle.record_pieces.specs.Events.{Event, looked, placed}
use Rattle.record_table.specs.declared.nodes.Node.{Node}
use Rattle.record_table.specs.declared.nodes.Node.TheVariants.{At}
use Rattle.record_table.specs.Handles.{view}
use Rattle.record_table.specs.Nodes.{origin, is_first}
use Rattle.record_rule.specs.Facts.{HasMark}
use Rattle.record_rule.specs.Links.{LoadedLink}
use Rattle.manager.specs.Guards.{Did}
use Rattle.set_calls.specs.Knowing.{search_}
use Rattle.set_calls.proofs.Going.{did_one, did_then}
use Rattle.set_calls.proofs.Placed.{may_answer, read_seen}
use Rattle.set_calls.proofs.Answering.{none_then, read_since}
use Rattle.list_calls.proofs.Standing.{stands_held}
use Rattle.lazy_facts.specs.Lazy.{lazy}
use Rattle.lazy_list.specs.Pieces.{Searches, sees, lacks_it, again}
use Rattle.lazy_list.specs.Walks.{Finds}
use Rattle.lazy_list.proofs.Ends.{is_spot, finds_it}
use Rattle.lazy_list.proofs.Looked.{present_there, seen_at_mark}
use Rattle.lazy_list.proofs.Lacking.{gap_lacks, mark_lacks}
use Rattle.lazy_list.proofs.searching.search.Goals as goal

pub place_at_mark-requires-clause-marked : goal.place_at_mark-requires-clause-marked
place_at_mark-requires-clause-marked g c = let p = c.find.new.guard.caller.now.pass in let q = c.load_link-link.new.self.caller.now.pass in let e = c.load_link-link.ensures in
    let spot = is_spot p c.args.root c.args.key c.in-Some-Present.field-0-is c.in-Some-Present.ensures.spot.1 in
    let told = subst (λ (n : Node). LoadedLink lazy g.R.Cover.facts (view p) (origin n) 3 (is_first p) e.step.0 (view q)) c.same_node.ensures e.step.2 in
    seen_at_mark g.R.Cover.facts p q c.args.root c.args.key c.in-Some-Present.at (is_first p) e.step.0 spot.2 spot.3 told e.pass.setup e.answers e.keeps spot.4
    (subst HasMark e.step.1 (c.is_marked.ensures.0 c.if-is_marked.true))

pub place_at_mark-requires-clause-call : goal.place_at_mark-requires-clause-call
place_at_mark-requires-clause-call g c = (refl, search_ c.args.key false)

pub place_absent-requires-clause-absent : goal.place_absent-requires-clause-absent
place_absent-requires-clause-absent g c = (is_spot c.find.new.guard.caller.now.pass c.args.root c.args.key c.in-Some-Absent.field-0-is c.in-Some-Absent.ensures.spot.1).2

pub place_absent-requires-clause-call : goal.place_absent-requires-clause-call
place_absent-requires-clause-call g c = (refl, search_ c.args.key false)

pub place_seen-requires-clause-allowed : goal.place_seen-requires-clause-allowed
place_seen-requires-clause-allowed g c = let p = c.find.new.guard.caller.now.pass in let q = c.load_link-link.new.self.caller.now.pass in let e = c.load_link-link.ensures in
    let spot = is_spot p c.args.root c.args.key c.in-Some-Present.field-0-is c.in-Some-Present.ensures.spot.1 in
    let told = subst (λ (n : Node). LoadedLink lazy g.R.Cover.facts (view p) (origin n) 3 (is_first p) e.step.0 (view q)) c.same_node.ensures e.step.2 in
    may_answer lazy q (Search c.args.key) true true (present_there g.R.Cover.facts p q c.args.root c.args.key c.in-Some-Present.at (is_first p) e.step.0 spot.2 spot.3 told e.pass.setup e.answers e.keeps
    (λ mark. let t = c.is_marked.ensures.1 (subst HasMark (sym e.step.1) mark) in let f = c.if-is_marked.false in let no : ⊥ = cc in no)) (λ h. h) (search_ c.args.key true)

pub returns-in-None-clause-did : goal.returns-in-None-clause-did
returns-in-None-clause-did g c = let did = c.in-None.ensures.did in let end = c.in-None.ensures.spot in let q = c.find.new.guard.caller.now.pass in
    let made : did.0 ≡ c.args.budget = (let e = did.2 in omega arith) in (
      did.1,
      subst (λ k. Searches c.args.root c.args.key (view q).own.guard.start_updates (view q).seen_updates c.args.budget (LookAgain k) did.1) (sym end) (again (subst (λ k. Finds c.args.key c.args.root k 0 None None did.1) made did.3)),
      did.4,
    )

-- the walk, the load of the record's link, and the placing
pub returns-then-is_marked-clause-tells : goal.returns-then-is_marked-clause-tells
returns-then-is_marked-clause-tells g c = let a = view c.args.guard.now.caller.now.pass in let v = view c.find.new.guard.caller.now.pass in let w = view c.load_link-link.new.self.caller.now.pass in
    read_since a w (view c.place_at_mark.new.guard.caller.now.pass) (Search c.args.key) false (c.load_link-link.ensures.pass.setup ∙ c.find.ensures.on.same.pass.setup) (none_then a v w c.find.ensures.on.answers c.load_link-link.ensures.answers) c.place_at_mark.ensures.tells

pub returns-then-is_marked-clause-did : goal.returns-then-is_marked-clause-did
returns-then-is_marked-clause-did g c =
    let f = c.args.guard.now in let h = c.find.new.guard in let i = c.load_link-link.new.self in let j = c.place_at_mark.new.guard in let did = c.in-Some-Present.ensures.did in let e = c.load_link-link.ensures in let at = c.in-Some-Present.at in
    let v = view h.caller.now.pass in let w = view i.caller.now.pass in let link = c.load_link-link.result in
    let finds = finds_it h.caller.now.pass c.args.root c.args.key did.0 v.own.updates_seen did.1 c.in-Some-Present.field-0-is did.3 in
    let spot = is_spot h.caller.now.pass c.args.root c.args.key c.in-Some-Present.field-0-is c.in-Some-Present.ensures.spot.1 in
    let look : Event = looked (At at) 3 link w.own.updates_seen in let place = c.place_at_mark.ensures.did in let m = place.0 in
    let put : Event = placed (Search c.args.key) false (max w.own.guard.start_updates m) in
    let still = (stands_held h.caller.now.pass i.caller.now.pass e.pass.setup c.args.root e.keeps (At at) spot.2).1 in
    let removal = mark_lacks i.caller.now.pass j.caller.now.pass c.args.root c.args.key m at link w.own.updates_seen finds (c.is_marked.ensures.0 c.if-is_marked.true) place.1 (still ∙ spot.3) c.place_at_mark.ensures.start c.place_at_mark.ensures.seen in (
      did.1 ++ look ∷ [] ++ put ∷ [],
      lacks_it removal (let n = did.2 in let l = c.find.ensures.hops in omega arith),
      did_then f i j (did.1 ++ look ∷ []) (put ∷ []) (e.same_reference.1 ∙ c.find.ensures.on.same.manager)
          (did_then f h i did.1 (look ∷ []) c.find.ensures.on.same.manager did.4 (did_one h i look (subst (λ (n : Node). Did h (looked n 3 link w.own.updates_seen) i) c.same_node.ensures e.did)))
          (did_one i j put place.2),
    )

pub returns-else-is_marked-clause-tells : goal.returns-else-is_marked-clause-tells
returns-else-is_marked-clause-tells g c = let a = view c.args.guard.now.caller.now.pass in let v = view c.find.new.guard.caller.now.pass in let p = c.find.new.guard.caller.now.pass in let q = c.load_link-link.new.self.caller.now.pass in let e = c.load_link-link.ensures in
    let spot = is_spot p c.args.root c.args.key c.in-Some-Present.field-0-is c.in-Some-Present.ensures.spot.1 in
    let told = subst (λ (n : Node). LoadedLink lazy g.R.Cover.facts (view p) (origin n) 3 (is_first p) e.step.0 (view q)) c.same_node.ensures e.step.2 in
    read_seen lazy c.args.guard.now.caller.now.pass q c.place_seen.new.guard.caller.now.pass (Search c.args.key) true true (present_there g.R.Cover.facts p q c.args.root c.args.key c.in-Some-Present.at (is_first p) e.step.0 spot.2 spot.3 told e.pass.setup e.answers e.keeps
    (λ mark. let t = c.is_marked.ensures.1 (subst HasMark (sym e.step.1) mark) in let f = c.if-is_marked.false in let no : ⊥ = cc in no)) (λ h. h) (search_ c.args.key true)
    (e.pass.setup ∙ c.find.ensures.on.same.pass.setup) (none_then a v (view q) c.find.ensures.on.answers e.answers) c.place_seen.ensures.step

pub returns-else-is_marked-clause-did : goal.returns-else-is_marked-clause-did
returns-else-is_marked-clause-did g c =
    let f = c.args.guard.now in let h = c.find.new.guard in let i = c.load_link-link.new.self in let j = c.place_seen.new.guard in let did = c.in-Some-Present.ensures.did in let e = c.load_link-link.ensures in let at = c.in-Some-Present.at in
    let v = view h.caller.now.pass in let w = view i.caller.now.pass in let link = c.load_link-link.result in
    let finds = finds_it h.caller.now.pass c.args.root c.args.key did.0 v.own.updates_seen did.1 c.in-Some-Present.field-0-is did.3 in
    let look : Event = looked (At at) 3 link w.own.updates_seen in
    let put : Event = placed (Search c.args.key) true w.own.updates_seen in (
      did.1 ++ look ∷ [] ++ put ∷ [],
      sees link w.own.updates_seen finds (λ mark. let t = c.is_marked.ensures.1 mark in let n = c.if-is_marked.false in let no : ⊥ = cc in no) (let n = did.2 in let l = c.find.ensures.hops in omega arith),
      did_then f i j (did.1 ++ look ∷ []) (put ∷ []) (e.same_reference.1 ∙ c.find.ensures.on.same.manager)
          (did_then f h i did.1 (look ∷ []) c.find.ensures.on.same.manager did.4 (did_one h i look (subst (λ (n : Node). Did h (looked n 3 link w.own.updates_seen) i) c.same_node.ensures e.did)))
          (did_one i j put c.place_seen.ensures.did),
    )

pub returns-in-Some-Absent-clause-tells : goal.returns-in-Some-Absent-clause-tells
returns-in-Some-Absent-clause-tells g c = let a = view c.args.guard.now.caller.now.pass in let v = view c.find.new.guard.caller.now.pass in
    read_since a v (view c.place_absent.new.guard.caller.now.pass) (Search c.args.key) false c.find.ensures.on.same.pass.setup c.find.ensures.on.answers c.place_absent.ensures.tells

pub returns-in-Some-Absent-clause-did : goal.returns-in-Some-Absent-clause-did
returns-in-Some-Absent-clause-did g c =
    let f = c.args.guard.now in let h = c.find.new.guard in let j = c.place_absent.new.guard in let did = c.in-Some-Absent.ensures.did in let v = view h.caller.now.pass in
    let finds = finds_it h.caller.now.pass c.args.root c.args.key did.0 v.own.updates_seen did.1 c.in-Some-Absent.field-0-is did.3 in let place = c.place_absent.ensures.did in
    let put : Event = placed (Search c.args.key) false place.0 in (
      did.1 ++ put ∷ [],
      lacks_it (gap_lacks h.caller.now.pass j.caller.now.pass c.args.root c.args.key place.0 finds place.1 c.place_absent.ensures.start c.place_absent.ensures.seen) (let n = did.2 in let l = c.find.ensures.hops in omega arith),
      did_then f h j did.1 (put ∷ []) c.find.ensures.on.same.manager did.4 (did_one h j put place.2),
    )
