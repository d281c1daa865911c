use Rattle.std.proofs.Common.{◌+◌, Some, sym, ap, ◌∙◌, subst}
use Rattle.record_memory.specs.declared.books.View.{View}
use Rattle.record_rule.specs.Links.{LoadedKey}
use Rattle.record_table.specs.declared.nodes.Held.{Held}
use Rattle.record_table.specs.declared.nodes.Node.TheVariants.{At}
use Rattle.record_table.specs.Handles.{view}
use Rattle.record_pieces.specs.Events.{keyed}
use Rattle.manager.specs.Guards.{Did}
use Rattle.set_calls.proofs.Going.{did_one}
use Rattle.list_calls.proofs.Standing.{rank_loaded, stands_held}
use Rattle.lazy_list.proofs.Reached.{reached_still}
use Rattle.lazy_list.proofs.walking.read.Goals as goal

pub returns-clause-seen : goal.returns-clause-seen
returns-clause-seen g c = ap (λ (v : View). v.own.updates_seen) c.load_key.ensures.step.2.view

pub returns-clause-reached : goal.returns-clause-reached
returns-clause-reached g c = let p = c.args.guard.now.caller.now.pass in let q = c.load_key.new.self.caller.now.pass in let e = c.load_key.ensures in
    reached_still p q e.pass.setup c.args.root e.keeps e.answers c.args.key (ap (λ (v : View). v.own.updates_seen) e.step.2.view) c.args.before.now (record { flags = c.args.flags; target = Some c.args.at.now.target }) c.args.at.now c.requires.reached

pub returns-clause-key : goal.returns-clause-key
returns-clause-key g c = let p = c.args.guard.now.caller.now.pass in let q = c.load_key.new.self.caller.now.pass in let e = c.load_key.ensures in
    let told = subst (λ (h : Held). LoadedKey (view p) h.place h.target e.step.0 (view q)) c.same_held.ensures e.step.2 in
    (stands_held p q e.pass.setup c.args.root e.keeps (At c.args.at.now) c.requires.reached.stands).1 ∙ rank_loaded p q c.args.at.now e.step.0 told ∙ ap (λ k. k + 1) (sym e.step.1)

pub returns-clause-low : goal.returns-clause-low
returns-clause-low g c = let e = c.load_key.ensures in (stands_held c.args.guard.now.caller.now.pass c.load_key.new.self.caller.now.pass e.pass.setup c.args.root e.keeps c.args.before.now c.requires.reached.before_it.stands).1

pub returns-clause-did : goal.returns-clause-did
returns-clause-did g c = let f = c.args.guard.now in let h = c.load_key.new.self in let found = c.load_key.result in
    did_one f h (keyed c.args.at.now.target found) (subst (λ (x : Held). Did f (keyed x.target found) h) c.same_held.ensures c.load_key.ensures.did)
