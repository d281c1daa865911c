use Rattle.std.proofs.Common.{◌≡◌, ◌%◌, [], ◌∷◌, Some, None, sym, ap, ◌∙◌, subst, arith}
use Rattle.record_memory.specs.declared.books.Setup.{Setup}
use Rattle.list_facts.specs.Michael.{michael}
use Rattle.record_table.specs.declared.nodes.Node.{Node}
use Rattle.record_table.specs.Handles.{view}
use Rattle.record_table.specs.Nodes.{origin}
use Rattle.reclaim_api.specs.Holds.{HasSeen, IsElsewhere}
use Rattle.reclaim_api.specs.declared.holding.Holding.TheVariants.{Null, Held as Holds, Marked, Moved}
use Rattle.record_pieces.specs.Events.{Event, hopped}
use Rattle.manager.specs.Guards.{Did}
use Rattle.set_calls.proofs.Going.{did_one, did_then}
use Rattle.michael_list.specs.Walks.{Looks, Hops, ends, meets_mark, moves, reaches}
use Rattle.michael_list.specs.declared.spots.Spot.TheVariants.{Absent}
use Rattle.michael_list.specs.declared.spots.Landing.TheVariants.{Found}
use Rattle.list_calls.specs.Standing.{StandsBefore, rank}
use Rattle.michael_list.specs.Knowing.{HasReachedNext, IsLanding, shown_by}
use Rattle.michael_list.proofs.Reached.{absent_at_end, before_still, stands_else, reaches_next}
use Rattle.michael_list.proofs.walking.hop.Goals as goal

pub hold-requires-clause-place : goal.hold-requires-clause-place
hold-requires-clause-place g c = let enough = g.met.R.Scheme.enough in let low = c.place_behind-place.ensures.within in omega arith

pub hold-requires-clause-elsewhere : goal.hold-requires-clause-elsewhere
hold-requires-clause-elsewhere g c = subst (λ (n : Node). IsElsewhere (origin n) c.place_behind-place.result) (sym c.same_node.ensures) c.place_behind-place.ensures.else_

pub look-requires-clause-reached : goal.look-requires-clause-reached
look-requires-clause-reached g c =
    let p = c.args.guard.now.caller.now.pass in let q = c.hold.new.self.caller.now.pass in let place = c.place_behind-place.result in let told = c.in-Held.ensures.reached in let last = told.2 in
    let home = ap (λ (k : Setup). c.args.key % k.roots) c.args.guard.now.of.setup ∙ c.requires.home.1 in
    let seen = subst (λ (n : Node). HasSeen michael place (origin n) p q last.0) c.same_node.ensures last.3 in
    subst (λ (n : Node). HasReachedNext q c.args.root c.args.key n c.in-Held.at (view q).own.updates_seen) (sym c.same_node-from.ensures)
    (reaches_next p q place c.args.root c.args.key c.args.before.now last.0 c.in-Held.ensures.pass.setup c.in-Held.ensures.answers seen last.1 c.requires.before home c.in-Held.at told.0 told.1 last.2 c.place_behind-place.ensures.else_ c.in-Held.ensures.keeps)

pub returns-in-Null-clause-landing : goal.returns-in-Null-clause-landing
returns-in-Null-clause-landing g c =
    let p = c.args.guard.now.caller.now.pass in let q = c.hold.new.self.caller.now.pass in let place = c.place_behind-place.result in let told = c.in-Null.ensures.reached in
    let home = ap (λ (k : Setup). c.args.key % k.roots) c.args.guard.now.of.setup ∙ c.requires.home.1 in
    let seen = subst (λ (n : Node). HasSeen michael place (origin n) p q told.0) c.same_node.ensures told.3 in
    let before = before_still p q place c.args.root c.args.key c.args.before.now told.0 c.in-Null.ensures.pass.setup c.in-Null.ensures.answers seen told.1 c.requires.before home c.place_behind-place.ensures.else_ c.in-Null.ensures.keeps in (
      subst (λ (n : Node). StandsBefore q c.args.root c.args.key n) (sym c.same_node-before.ensures) before,
      tt,
      absent_at_end p q place c.args.root c.args.key c.args.before.now told.0 c.in-Null.ensures.pass.setup c.in-Null.ensures.answers seen told.1 c.requires.before home told.2,
    )

pub returns-in-Null-clause-did : goal.returns-in-Null-clause-did
returns-in-Null-clause-did g c = let f = c.args.guard.now in let h = c.hold.new.self in let seen = (view h.caller.now.pass).own.updates_seen in let place = c.place_behind-place.result in let e : Event = hopped place c.args.before.now 3 Null seen in (
  e ∷ [],
  subst (λ (n : Node). Hops c.args.key c.args.before.now (Found (Absent n None)) (Some seen) (e ∷ [])) (sym c.same_node-before.ensures) (ends place seen),
  did_one f h e (subst (λ (n : Node). Did f (hopped place n 3 Null seen) h) c.same_node.ensures c.in-Null.ensures.did),
)

-- the node is held still at the rank that it had
low_is : (g : _) (c : goal.After-look g) → rank c.hold.new.self.caller.now.pass c.args.before.now ≡ rank c.args.guard.now.caller.now.pass c.args.before.now
low_is g c =
    let p = c.args.guard.now.caller.now.pass in let q = c.hold.new.self.caller.now.pass in let place = c.place_behind-place.result in let last = c.in-Held.ensures.reached.2 in
    (stands_else p q place c.args.root c.args.key c.args.before.now last.0 c.in-Held.ensures.pass.setup c.in-Held.ensures.answers (subst (λ (n : Node). HasSeen michael place (origin n) p q last.0) c.same_node.ensures last.3) last.1 c.requires.before
    (ap (λ (k : Setup). c.args.key % k.roots) c.args.guard.now.of.setup ∙ c.requires.home.1) c.place_behind-place.ensures.else_ c.in-Held.ensures.keeps).1

pub returns-in-Held-clause-landing : goal.returns-in-Held-clause-landing
returns-in-Held-clause-landing g c =
    let q = c.hold.new.self.caller.now.pass in let r = c.look.new.guard.caller.now.pass in
    let landing = subst (λ (n : Node). IsLanding r c.args.root c.args.key n (rank q n) c.look.result) c.same_node-from.ensures c.look.ensures.landing in
    subst (λ low. IsLanding r c.args.root c.args.key c.args.before.now low c.look.result) (low_is g c) landing

pub returns-in-Held-clause-did : goal.returns-in-Held-clause-did
returns-in-Held-clause-did g c =
    let f = c.args.guard.now in let h = c.hold.new.self in let seen = (view h.caller.now.pass).own.updates_seen in let place = c.place_behind-place.result in let at = c.in-Held.at in let did = c.look.ensures.did in
    let e : Event = hopped place c.args.before.now 3 (Holds at) seen in
    let looks = subst (λ (n : Node). Looks c.args.key n at seen c.look.result (shown_by (view c.look.new.guard.caller.now.pass) c.look.result) did.0) c.same_node-from.ensures did.1 in (
      e ∷ did.0,
      reaches place at seen looks,
      did_then f h c.look.new.guard (e ∷ []) did.0 c.in-Held.ensures.same_reference.1 (did_one f h e (subst (λ (n : Node). Did f (hopped place n 3 (Holds at) seen) h) c.same_node.ensures c.in-Held.ensures.did)) did.2,
    )

pub returns-in-Marked-clause-did : goal.returns-in-Marked-clause-did
returns-in-Marked-clause-did g c = let f = c.args.guard.now in let h = c.hold.new.self in let seen = (view h.caller.now.pass).own.updates_seen in let place = c.place_behind-place.result in let link = c.in-Marked.field-0 in let e : Event = hopped place c.args.before.now 3 (Marked link) seen in
    (e ∷ [], meets_mark place link seen, did_one f h e (subst (λ (n : Node). Did f (hopped place n 3 (Marked link) seen) h) c.same_node.ensures c.in-Marked.ensures.did))

pub returns-in-Moved-clause-did : goal.returns-in-Moved-clause-did
returns-in-Moved-clause-did g c = let f = c.args.guard.now in let h = c.hold.new.self in let seen = (view h.caller.now.pass).own.updates_seen in let place = c.place_behind-place.result in let found = c.in-Moved.found in let e : Event = hopped place c.args.before.now 3 (Moved found) seen in
    (e ∷ [], moves place found seen, did_one f h e (subst (λ (n : Node). Did f (hopped place n 3 (Moved found) seen) h) c.same_node.ensures c.in-Moved.ensures.did))
