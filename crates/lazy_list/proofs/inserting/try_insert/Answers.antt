use Rattle.std.proofs.Common.{[], ◌∷◌, ◌++◌, None, sym, true, false, ◌∙◌, subst}
use Rattle.set_model.specs.declared.calls.Call.TheVariants.{Insert}
use Rattle.record_pieces.specs.Events.{Event, looked, placed, refused}
use Rattle.record_rule.specs.Facts.{HasMark}
use Rattle.record_rule.specs.Links.{LoadedLink}
use Rattle.record_table.specs.declared.nodes.Node.TheVariants.{At}
use Rattle.record_table.specs.declared.nodes.Held.{Held}
use Rattle.record_table.specs.Handles.{view}
use Rattle.record_table.specs.Nodes.{origin, is_first}
use Rattle.manager.specs.Guards.{Did, DidAll}
use Rattle.set_calls.specs.Knowing.{insertion, HasSeenKey}
use Rattle.set_calls.proofs.Going.{did_one, did_then}
use Rattle.set_calls.proofs.Placed.{may_answer, read_seen}
use Rattle.set_calls.proofs.Answering.{none_then}
use Rattle.list_calls.specs.Records.{target_of, back}
use Rattle.list_calls.proofs.Standing.{before_held, seen_held, beyond_held}
use Rattle.lazy_facts.specs.Lazy.{lazy}
use Rattle.lazy_list.specs.Pieces.{tries_lock, links_locked, FailsToLock}
use Rattle.lazy_list.proofs.Ends.{is_spot, finds_it}
use Rattle.lazy_list.proofs.Looked.{present_there}
use Rattle.lazy_list.proofs.Inserted.{hand_kept, before_relinked, beyond_relinked, no_hops_left, was_marked, key_was_there, none_was_left, was_late, was_linked}
use Rattle.lazy_list.proofs.inserting.try_insert.Goals as goal

pub returns-then-is_marked-clause-tells : goal.returns-then-is_marked-clause-tells
returns-then-is_marked-clause-tells g c = let a = view c.args.guard.now.caller.now.pass in let v = view c.find.new.guard.caller.now.pass in let w = view c.load_link-link.new.self.caller.now.pass in (
  c.in-Some-Present.ensures.spot.0,
  none_then a v w c.find.ensures.on.answers c.load_link-link.ensures.answers,
  hand_kept v w c.args.hand c.load_link-link.ensures.owns (hand_kept a v c.args.hand c.find.ensures.on.owns c.requires.hand),
)

pub returns-then-is_marked-clause-did : goal.returns-then-is_marked-clause-did
returns-then-is_marked-clause-did g c =
    let f = c.args.guard.now in let h = c.find.new.guard in let i = c.load_link-link.new.self in let did = c.in-Some-Present.ensures.did in let e = c.load_link-link.ensures in let at = c.in-Some-Present.at in let link = c.load_link-link.result in
    let w = view i.caller.now.pass in
    let finds = finds_it h.caller.now.pass c.args.root c.args.key did.0 (view h.caller.now.pass).own.updates_seen did.1 c.in-Some-Present.field-0-is did.3 in
    let look : Event = looked (At at) 3 link w.own.updates_seen in (
      did.1 ++ look ∷ [],
      did_then f h i did.1 (look ∷ []) c.find.ensures.on.same.manager did.4 (did_one h i look (subst (λ (x : Held). Did h (looked (At x) 3 link w.own.updates_seen) i) c.same_held.ensures e.did)),
      λ ds tries. was_marked c.args.root c.args.key c.args.budget c.args.hops.now c.find.new.hops did.0 did.2 c.args.hand link w.own.updates_seen ds did.1 tries finds (c.is_marked.ensures.0 c.if-is_marked.true),
    )

pub give_back-requires-in-Some-Present-clause-hand : goal.give_back-requires-in-Some-Present-clause-hand
give_back-requires-in-Some-Present-clause-hand g c = let a = view c.args.guard.now.caller.now.pass in let v = view c.find.new.guard.caller.now.pass in let w = view c.load_link-link.new.self.caller.now.pass in
    hand_kept v w c.args.hand c.load_link-link.ensures.owns (hand_kept a v c.args.hand c.find.ensures.on.owns c.requires.hand)

pub place_seen-requires-clause-allowed : goal.place_seen-requires-clause-allowed
place_seen-requires-clause-allowed g c = let p = c.find.new.guard.caller.now.pass in let q = c.load_link-link.new.self.caller.now.pass in let r = c.give_back-in-Some-Present.new.guard.caller.now.pass in let e = c.load_link-link.ensures in let gave = c.give_back-in-Some-Present.ensures in
    let spot = is_spot p c.args.root c.args.key c.in-Some-Present.field-0-is c.in-Some-Present.ensures.spot.1 in
    let told = subst (λ (x : Held). LoadedLink lazy g.R.Cover.facts (view p) (origin (At x)) 3 (is_first p) e.step.0 (view q)) c.same_held.ensures e.step.2 in
    let seen = present_there g.R.Cover.facts p q c.args.root c.args.key c.in-Some-Present.at (is_first p) e.step.0 spot.2 spot.3 told e.pass.setup e.answers e.keeps
    (λ mark. let t = c.is_marked.ensures.1 (subst HasMark (sym e.step.1) mark) in let f = c.if-is_marked.false in let no : ⊥ = cc in no) in
    may_answer lazy r (Insert c.args.key) true false (subst (HasSeenKey r c.args.key true) (sym gave.seen) (seen_held q r gave.same.pass.setup c.args.root gave.keeps gave.answers c.args.key true seen)) (λ h. h) (insertion c.args.key)

pub returns-else-is_marked-clause-tells : goal.returns-else-is_marked-clause-tells
returns-else-is_marked-clause-tells g c = let a = c.args.guard.now.caller.now.pass in let p = c.find.new.guard.caller.now.pass in let q = c.load_link-link.new.self.caller.now.pass in let r = c.give_back-in-Some-Present.new.guard.caller.now.pass in let e = c.load_link-link.ensures in let gave = c.give_back-in-Some-Present.ensures in
    let on = c.find.ensures.on in
    let spot = is_spot p c.args.root c.args.key c.in-Some-Present.field-0-is c.in-Some-Present.ensures.spot.1 in
    let told = subst (λ (x : Held). LoadedLink lazy g.R.Cover.facts (view p) (origin (At x)) 3 (is_first p) e.step.0 (view q)) c.same_held.ensures e.step.2 in
    let seen = present_there g.R.Cover.facts p q c.args.root c.args.key c.in-Some-Present.at (is_first p) e.step.0 spot.2 spot.3 told e.pass.setup e.answers e.keeps
    (λ mark. let t = c.is_marked.ensures.1 (subst HasMark (sym e.step.1) mark) in let f = c.if-is_marked.false in let no : ⊥ = cc in no) in
    read_seen lazy a r c.place_seen.new.guard.caller.now.pass (Insert c.args.key) true false (subst (HasSeenKey r c.args.key true) (sym gave.seen) (seen_held q r gave.same.pass.setup c.args.root gave.keeps gave.answers c.args.key true seen)) (λ h. h) (insertion c.args.key)
    (gave.same.pass.setup ∙ e.pass.setup ∙ on.same.pass.setup) (none_then (view a) (view q) (view r) (none_then (view a) (view p) (view q) on.answers e.answers) gave.answers) c.place_seen.ensures.step

pub returns-else-is_marked-clause-did : goal.returns-else-is_marked-clause-did
returns-else-is_marked-clause-did g c =
    let f = c.args.guard.now in let h = c.find.new.guard in let i = c.load_link-link.new.self in let j = c.give_back-in-Some-Present.new.guard in let k = c.place_seen.new.guard in let did = c.in-Some-Present.ensures.did in let e = c.load_link-link.ensures in let gave = c.give_back-in-Some-Present.ensures in
    let at = c.in-Some-Present.at in let link = c.load_link-link.result in let w = view i.caller.now.pass in
    let finds = finds_it h.caller.now.pass c.args.root c.args.key did.0 (view h.caller.now.pass).own.updates_seen did.1 c.in-Some-Present.field-0-is did.3 in
    let look : Event = looked (At at) 3 link w.own.updates_seen in let put : Event = placed (Insert c.args.key) false w.own.updates_seen in
    let to_i = e.same_reference.1 ∙ c.find.ensures.on.same.manager in let to_j = gave.same.manager ∙ to_i in
    let did_look = did_then f h i did.1 (look ∷ []) c.find.ensures.on.same.manager did.4 (did_one h i look (subst (λ (x : Held). Did h (looked (At x) 3 link w.own.updates_seen) i) c.same_held.ensures e.did)) in (
      did.1 ++ look ∷ [] ++ back c.args.hand ++ put ∷ [],
      did_then f j k (did.1 ++ look ∷ [] ++ back c.args.hand) (put ∷ []) to_j (did_then f i j (did.1 ++ look ∷ []) (back c.args.hand) to_i did_look gave.did)
          (did_one j k put (subst (λ n. Did j (placed (Insert c.args.key) false n) k) gave.seen c.place_seen.ensures.did)),
      λ ds tries. key_was_there c.args.root c.args.key c.args.budget c.args.hops.now c.find.new.hops did.0 did.2 c.args.hand link w.own.updates_seen ds did.1 tries finds c.find.ensures.hops
          (λ mark. let t = c.is_marked.ensures.1 mark in let n = c.if-is_marked.false in let no : ⊥ = cc in no),
    )

pub returns-then-not-lock_found-clause-did : goal.returns-then-not-lock_found-clause-did
returns-then-not-lock_found-clause-did g c =
    let f = c.args.guard.now in let h = c.find.new.guard in let i = c.take_record.new.guard in let j = c.lock_found.new.guard in
    let did = c.in-Some-Absent.ensures.did in let had = c.in-Ok.ensures.did in let late = c.if-not-lock_found.ensures.did in
    let finds = finds_it h.caller.now.pass c.args.root c.args.key did.0 (view h.caller.now.pass).own.updates_seen did.1 c.in-Some-Absent.field-0-is did.3 in
    let fails = subst (λ t. FailsToLock c.in-Some-Absent.before c.in-Some-Absent.flags t late.0) c.target_of.ensures late.1 in (
      did.1 ++ had.0 ++ late.0,
      did_then f i j (did.1 ++ had.0) late.0 (c.take_record.ensures.on.same.manager ∙ c.find.ensures.on.same.manager) (did_then f h i did.1 had.0 c.find.ensures.on.same.manager did.4 had.2) late.2,
      λ ds tries. was_late c.args.root c.args.key c.args.budget c.args.hops.now c.find.new.hops did.0 did.2 c.args.hand ds did.1 tries finds c.in-Ok.own had.0 late.0 had.1 fails,
    )

pub link_locked-requires-clause-before : goal.link_locked-requires-clause-before
link_locked-requires-clause-before g c = let took_is = c.take_record.ensures in let q = c.take_record.new.guard.caller.now.pass in
    let spot = is_spot c.find.new.guard.caller.now.pass c.args.root c.args.key c.in-Some-Absent.field-0-is c.in-Some-Absent.ensures.spot.1 in
    before_relinked q c.lock_found.new.guard.caller.now.pass c.lock_found.ensures.same.pass.setup c.args.root c.args.key c.in-Some-Absent.before c.if-not-lock_found.ensures.keeps c.in-Some-Absent.before
    (before_held c.find.new.guard.caller.now.pass q took_is.on.same.pass.setup c.args.root took_is.keeps c.args.key c.in-Some-Absent.before spot.0)

pub link_locked-requires-clause-next : goal.link_locked-requires-clause-next
link_locked-requires-clause-next g c = let took_is = c.take_record.ensures in let q = c.take_record.new.guard.caller.now.pass in
    let spot = is_spot c.find.new.guard.caller.now.pass c.args.root c.args.key c.in-Some-Absent.field-0-is c.in-Some-Absent.ensures.spot.1 in
    beyond_relinked q c.lock_found.new.guard.caller.now.pass c.lock_found.ensures.same.pass.setup c.args.root c.args.key c.in-Some-Absent.before c.if-not-lock_found.ensures.keeps c.in-Some-Absent.next
    (beyond_held c.find.new.guard.caller.now.pass q took_is.on.same.pass.setup c.args.root took_is.keeps c.args.key c.in-Some-Absent.next spot.1)

pub returns-else-not-lock_found-clause-did : goal.returns-else-not-lock_found-clause-did
returns-else-not-lock_found-clause-did g c =
    let f = c.args.guard.now in let h = c.find.new.guard in let i = c.take_record.new.guard in let j = c.lock_found.new.guard in let k = c.link_locked.new.guard in
    let did = c.in-Some-Absent.ensures.did in let had = c.in-Ok.ensures.did in let put = c.if-not-lock_found.ensures.did in let before = c.in-Some-Absent.before in let next = c.in-Some-Absent.next in let own = c.in-Ok.own in
    let finds = finds_it h.caller.now.pass c.args.root c.args.key did.0 (view h.caller.now.pass).own.updates_seen did.1 c.in-Some-Absent.field-0-is did.3 in
    let to_i = c.take_record.ensures.on.same.manager ∙ c.find.ensures.on.same.manager in
    let locked = subst (λ t. DidAll i (tries_lock before t None) j) c.target_of.ensures put.1 in (
      did.1 ++ had.0 ++ tries_lock before (target_of next) None ++ links_locked c.args.key before next own,
      did_then f j k (did.1 ++ had.0 ++ tries_lock before (target_of next) None) (links_locked c.args.key before next own) (c.lock_found.ensures.same.manager ∙ to_i)
          (did_then f i j (did.1 ++ had.0) (tries_lock before (target_of next) None) to_i (did_then f h i did.1 had.0 c.find.ensures.on.same.manager did.4 had.2) locked) c.link_locked.ensures.did,
      λ ds tries. was_linked c.args.root c.args.key c.args.budget c.args.hops.now c.find.new.hops did.0 did.2 c.args.hand ds did.1 tries finds own had.0 c.find.ensures.hops put.0 had.1,
    )

pub returns-in-None-clause-did : goal.returns-in-None-clause-did
returns-in-None-clause-did g c =
    let f = c.args.guard.now in let h = c.find.new.guard in let i = c.give_back.new.guard in let did = c.in-None.ensures.did in (
      did.1 ++ back c.args.hand,
      did_then f h i did.1 (back c.args.hand) c.find.ensures.on.same.manager did.4 c.give_back.ensures.did,
      λ ds tries. no_hops_left c.args.root c.args.key c.args.budget c.args.hops.now c.find.new.hops did.0 did.2 c.args.hand ds did.1 c.in-None.ensures.spot tries did.3,
    )

pub returns-in-Err-clause-did : goal.returns-in-Err-clause-did
returns-in-Err-clause-did g c =
    let f = c.args.guard.now in let h = c.find.new.guard in let i = c.take_record.new.guard in
    let did = c.in-Some-Absent.ensures.did in let left = c.in-Err.ensures.did in
    let finds = finds_it h.caller.now.pass c.args.root c.args.key did.0 (view h.caller.now.pass).own.updates_seen did.1 c.in-Some-Absent.field-0-is did.3 in
    let e : Event = refused c.in-Err.none.found in (
      did.1 ++ e ∷ [],
      did_then f h i did.1 (e ∷ []) c.find.ensures.on.same.manager did.4 (did_one h i e left.1),
      λ ds tries. none_was_left c.args.root c.args.key c.args.budget c.args.hops.now c.find.new.hops did.0 did.2 c.args.hand ds did.1 tries finds c.in-Err.none.found c.find.ensures.hops left.0,
    )
