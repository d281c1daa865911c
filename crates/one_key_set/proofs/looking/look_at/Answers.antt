use Rattle.std.proofs.Common.{[], ◌∷◌, ap, sym, subst, ◌∙◌}
use Rattle.std.proofs.lemmas.Bool.{both_ways}
use Rattle.record_rule.specs.Facts.{mark_bit}
use Rattle.record_table.specs.declared.nodes.Held.{Held}
use Rattle.record_table.specs.declared.nodes.Node.TheVariants.{At}
use Rattle.record_table.specs.Handles.{view}
use Rattle.record_pieces.specs.Events.{Event, looked}
use Rattle.manager.specs.Guards.{Did}
use Rattle.set_calls.proofs.Going.{did_one, did_then}
use Rattle.one_key_set.specs.Knowing.{HoldsKey, KnowsMark}
use Rattle.one_key_set.specs.Pieces.{finds, clears}
use Rattle.one_key_set.proofs.Doing.{with_mark, without_mark}
use Rattle.one_key_set.proofs.Looks.{mark_noted, holds_still, present_there}
use Rattle.one_key_set.proofs.looking.look_at.Goals as goal

pub take_out-requires-clause-marked : goal.take_out-requires-clause-marked
take_out-requires-clause-marked g c = let p = c.args.guard.now.caller.now.pass in let q = c.load_link-link.new.self.caller.now.pass in let l = c.load_link-link.ensures.step in
    subst (KnowsMark q) c.same_held.ensures (mark_noted g.R.Cover.facts p q c.args.key c.same_held.result _ l.0 (subst (HoldsKey p c.args.key) (sym c.same_held.ensures) c.requires.at) l.2 (ap mark_bit (sym l.1) ∙ c.is_marked.ensures.0 c.if-is_marked.true))

pub returns-clause-seen : goal.returns-clause-seen
returns-clause-seen g c = let p = c.args.guard.now.caller.now.pass in let q = c.load_link-link.new.self.caller.now.pass in let l = c.load_link-link.ensures in
    let holds = subst (HoldsKey p c.args.key) (sym c.same_held.ensures) c.requires.at in (
      subst (HoldsKey q c.args.key) c.same_held.ensures (holds_still g.R.Cover.facts p q c.args.key c.same_held.result _ l.step.0 holds l.step.2 l.keeps),
      present_there g.R.Cover.facts p q c.args.key c.same_held.result _ l.step.0 holds l.step.2 (λ mark. both_ways c.is_marked.result c.if-is_marked.false (c.is_marked.ensures.1 (ap mark_bit l.step.1 ∙ mark))) l.pass.setup l.answers l.keeps,
    )

pub returns-then-is_marked-clause-did : goal.returns-then-is_marked-clause-did
returns-then-is_marked-clause-did g c = let f = c.args.guard.now in let h = c.load_link-link.new.self in let i = c.take_out.new.guard in let link = c.load_link-link.result in let then = (view h.caller.now.pass).own.updates_seen in let did = c.take_out.ensures.did in
    let e : Event = looked (At c.args.at) 3 link then in (
      e ∷ did.0,
      clears link then (with_mark c.is_marked.result link c.is_marked.ensures.0 c.if-is_marked.true) did.1,
      did_then f h i (e ∷ []) did.0 c.load_link-link.ensures.same_reference.1 (did_one f h e (subst (λ (x : Held). Did f (looked (At x) 3 link then) h) c.same_held.ensures c.load_link-link.ensures.did)) did.2,
    )

pub returns-clause-did : goal.returns-clause-did
returns-clause-did g c = let f = c.args.guard.now in let h = c.load_link-link.new.self in let link = c.load_link-link.result in let then = (view h.caller.now.pass).own.updates_seen in
    let e : Event = looked (At c.args.at) 3 link then in (
      e ∷ [],
      finds link then (without_mark c.is_marked.result link c.is_marked.ensures.1 c.if-is_marked.false),
      did_one f h e (subst (λ (x : Held). Did f (looked (At x) 3 link then) h) c.same_held.ensures c.load_link-link.ensures.did),
    )
