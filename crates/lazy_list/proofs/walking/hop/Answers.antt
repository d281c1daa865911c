use Rattle.std.proofs.Common.{ℕ, ◌%◌, [], ◌∷◌, Some, None, sym, refl, ap, ◌∙◌, subst, arith}
use Rattle.record_memory.specs.declared.books.Setup.{Setup}
use Rattle.record_rule.specs.FrozenLinks.{MayFollow, by_walks, by_kept}
use Rattle.record_table.proofs.Started.{later_load}
use Rattle.record_table.specs.declared.passes.Pass.{Pass}
use Rattle.record_table.specs.declared.nodes.Node.{Node}
use Rattle.record_table.specs.declared.nodes.Node.TheVariants.{Root, At}
use Rattle.record_table.specs.Handles.{view}
use Rattle.record_table.specs.Nodes.{origin, is_first}
use Rattle.reclaim_api.specs.Holds.{IsElsewhere}
use Rattle.reclaim_api.specs.Following.{HasFollowed}
use Rattle.reclaim_api.specs.declared.following.Reached.TheVariants.{Null, Held as Holds}
use Rattle.record_pieces.specs.Events.{Event, followed}
use Rattle.manager.specs.Guards.{Did}
use Rattle.set_calls.proofs.Going.{did_one, did_then}
use Rattle.list_calls.specs.Standing.{StandsAt, rank}
use Rattle.lazy_facts.specs.Lazy.{lazy}
use Rattle.lazy_list.specs.declared.spots.Spot.TheVariants.{Absent}
use Rattle.lazy_list.specs.declared.spots.Landing.TheVariants.{Found}
use Rattle.lazy_list.specs.Walks.{Looks, Hops, ends, reaches}
use Rattle.lazy_list.specs.Knowing.{HasReachedNext, IsLanding}
use Rattle.lazy_list.proofs.Reached.{absent_at_end, before_still, low_still, reaches_next}
use Rattle.lazy_list.proofs.walking.hop.Goals as goal

-- each walk may follow the links of roots, and those of records that it holds
may_follow : {S R : Type 0} (p : Pass S R) (root : ℕ) (node : Node) → StandsAt p root node → MayFollow lazy (view p) (origin node) 3 (is_first p)
may_follow p root (Root n) at = by_walks n refl (λ body. refl)
may_follow p root (At a) at = by_kept _ refl refl (later_load p at.there.started)

pub hold_frozen-requires-clause-place : goal.hold_frozen-requires-clause-place
hold_frozen-requires-clause-place g c = let enough = g.met.R.Scheme.enough in let low = c.place_behind-place.ensures.within in omega arith

pub hold_frozen-requires-clause-elsewhere : goal.hold_frozen-requires-clause-elsewhere
hold_frozen-requires-clause-elsewhere g c = subst (λ (n : Node). IsElsewhere (origin n) c.place_behind-place.result) (sym c.same_node.ensures) c.place_behind-place.ensures.else_

pub hold_frozen-requires-clause-link : goal.hold_frozen-requires-clause-link
hold_frozen-requires-clause-link g c = let p = c.args.guard.now.caller.now.pass in
    subst (λ (n : Node). MayFollow lazy (view p) (origin n) 3 (is_first p)) (sym c.same_node.ensures) (may_follow p c.args.root c.args.before.now c.requires.before.stands)

pub look-requires-clause-reached : goal.look-requires-clause-reached
look-requires-clause-reached g c = let p = c.args.guard.now.caller.now.pass in let q = c.hold_frozen.new.self.caller.now.pass in let e = c.in-Held.ensures in
    let saw = subst (λ (n : Node). HasFollowed lazy c.place_behind-place.result (origin n) p (Holds c.in-Held.held c.in-Held.flags) q) c.same_node.ensures c.in-Held.ensures.reached in
    subst (λ (n : Node). HasReachedNext q c.args.root c.args.key n (record { flags = c.in-Held.flags; target = Some c.in-Held.held.target }) c.in-Held.held) (sym c.same_node-from.ensures)
    (reaches_next p q c.place_behind-place.result c.args.root c.args.key c.args.before.now (Holds c.in-Held.held c.in-Held.flags) e.pass.setup e.answers saw c.requires.before (ap (λ (k : Setup). c.args.key % k.roots) c.args.guard.now.of.setup ∙ c.requires.home.1) c.requires.fresh c.place_behind-place.ensures.else_ e.keeps c.in-Held.held saw.holds.0 saw.holds.1 refl)

pub returns-in-Null-clause-landing : goal.returns-in-Null-clause-landing
returns-in-Null-clause-landing g c = let p = c.args.guard.now.caller.now.pass in let q = c.hold_frozen.new.self.caller.now.pass in let e = c.in-Null.ensures in let place = c.place_behind-place.result in
    let saw = subst (λ (n : Node). HasFollowed lazy place (origin n) p (Null c.in-Null.flags) q) c.same_node.ensures c.in-Null.ensures.reached in
    let low = low_still p q place c.args.root c.args.key c.args.before.now (Null c.in-Null.flags) e.pass.setup e.answers saw c.requires.before (ap (λ (k : Setup). c.args.key % k.roots) c.args.guard.now.of.setup ∙ c.requires.home.1) c.requires.fresh c.place_behind-place.ensures.else_ e.keeps in
    let before = before_still p q place c.args.root c.args.key c.args.before.now (Null c.in-Null.flags) e.pass.setup e.answers saw c.requires.before (ap (λ (k : Setup). c.args.key % k.roots) c.args.guard.now.of.setup ∙ c.requires.home.1) c.requires.fresh c.place_behind-place.ensures.else_ e.keeps in
    let absent = absent_at_end p q place c.args.root c.args.key c.args.before.now (Null c.in-Null.flags) e.pass.setup e.answers saw c.requires.before (ap (λ (k : Setup). c.args.key % k.roots) c.args.guard.now.of.setup ∙ c.requires.home.1) c.requires.fresh c.place_behind-place.ensures.else_ e.keeps refl in
    subst (λ (n : Node). IsLanding q c.args.root c.args.key (rank p c.args.before.now) (Found (Absent n c.in-Null.flags None))) (sym c.same_node-before.ensures) ((before, tt, absent), low)

pub returns-in-Null-clause-did : goal.returns-in-Null-clause-did
returns-in-Null-clause-did g c = let f = c.args.guard.now in let h = c.hold_frozen.new.self in let seen = (view h.caller.now.pass).own.updates_seen in let place = c.place_behind-place.result in
    let e : Event = followed place c.args.before.now 3 (Null c.in-Null.flags) seen in (
      e ∷ [],
      subst (λ (n : Node). Hops c.args.key c.args.before.now seen (Found (Absent n c.in-Null.flags None)) (e ∷ [])) (sym c.same_node-before.ensures) (ends place c.in-Null.flags),
      did_one f h e (subst (λ (n : Node). Did f (followed place n 3 (Null c.in-Null.flags) seen) h) c.same_node.ensures c.in-Null.ensures.did),
    )

pub returns-in-Held-clause-landing : goal.returns-in-Held-clause-landing
returns-in-Held-clause-landing g c = let p = c.args.guard.now.caller.now.pass in let q = c.hold_frozen.new.self.caller.now.pass in let r = c.look.new.guard.caller.now.pass in let e = c.in-Held.ensures in let place = c.place_behind-place.result in
    let saw = subst (λ (n : Node). HasFollowed lazy place (origin n) p (Holds c.in-Held.held c.in-Held.flags) q) c.same_node.ensures c.in-Held.ensures.reached in
    let low = low_still p q place c.args.root c.args.key c.args.before.now (Holds c.in-Held.held c.in-Held.flags) e.pass.setup e.answers saw c.requires.before (ap (λ (k : Setup). c.args.key % k.roots) c.args.guard.now.of.setup ∙ c.requires.home.1) c.requires.fresh c.place_behind-place.ensures.else_ e.keeps in
    subst (λ k. IsLanding r c.args.root c.args.key k c.look.result) (ap (rank q) c.same_node-from.ensures ∙ low) c.look.ensures.landing

pub returns-in-Held-clause-did : goal.returns-in-Held-clause-did
returns-in-Held-clause-did g c = let f = c.args.guard.now in let h = c.hold_frozen.new.self in let i = c.look.new.guard in let place = c.place_behind-place.result in let at = c.in-Held.held in let did = c.look.ensures.did in let flags = c.in-Held.flags in
    let seen = (view i.caller.now.pass).own.updates_seen in
    let e : Event = followed place c.args.before.now 3 (Holds at flags) seen in
    let looks = subst (λ (n : Node). Looks c.args.key n flags at c.look.result did.0) c.same_node-from.ensures did.1 in
    let first = subst (λ (z : Node × ℕ). Did f (followed place z.0 3 (Holds at flags) z.1) h) (λ k. (c.same_node.ensures k, sym c.look.ensures.seen k)) c.in-Held.ensures.did in (
      e ∷ did.0,
      reaches place flags at looks,
      did_then f h i (e ∷ []) did.0 c.in-Held.ensures.same_reference.1 (did_one f h e first) did.2,
    )
