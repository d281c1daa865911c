use Rattle.std.proofs.Common.{◌≡◌, ◌+◌, true, sym, ap, ◌∙◌, subst}
use Rattle.record_rule.specs.Facts.{HasMark}
use Rattle.record_rule.specs.Links.{from_place, LoadedKey, LoadedLink}
use Rattle.list_facts.specs.Michael.{michael}
use Rattle.row_words.specs.Refs.{LinkParts}
use Rattle.row_words.specs.Packing.{IsLink}
use Rattle.record_table.specs.declared.nodes.Held.{Held}
use Rattle.record_table.specs.declared.nodes.Node.TheVariants.{At}
use Rattle.record_table.specs.Nodes.{is_first}
use Rattle.record_table.specs.Handles.{view}
use Rattle.record_pieces.specs.Events.{keyed, looked}
use Rattle.manager.specs.Guards.{Did}
use Rattle.set_calls.specs.Knowing.{HasSeenKey}
use Rattle.michael_list.specs.Walks.{unmarked}
use Rattle.list_calls.specs.Standing.{rank}
use Rattle.michael_list.specs.Knowing.{IsMarkNoted, HasReachedNext}
use Rattle.michael_list.proofs.Looking.{did_loads}
use Rattle.list_calls.proofs.Standing.{stands_held, rank_loaded}
use Rattle.michael_list.proofs.Reached.{reached_still}
use Rattle.michael_list.proofs.Loaded.{mark_noted, no_flag, in_range, present_there}
use Rattle.michael_list.proofs.walking.read.Goals as goal

-- the record's key and link as they were loaded
key_told : (g : _) (c : goal.After-load_link-link g) → LoadedKey (view c.args.guard.now.caller.now.pass) c.args.at.now.place c.args.at.now.target c.load_key-found.ensures.step.0 (view c.load_key-found.new.self.caller.now.pass)
key_told g c = subst (λ (h : Held). LoadedKey (view c.args.guard.now.caller.now.pass) h.place h.target c.load_key-found.ensures.step.0 (view c.load_key-found.new.self.caller.now.pass)) c.same_held.ensures c.load_key-found.ensures.step.2

link_told : (g : _) (c : goal.After-load_link-link g) → LoadedLink michael g.R.Cover.facts (view c.load_key-found.new.self.caller.now.pass)
    (from_place c.args.at.now.place c.args.at.now.target) 3 (is_first c.load_key-found.new.self.caller.now.pass) c.load_link-link.ensures.step.0 (view c.load_link-link.new.self.caller.now.pass)
link_told g c = subst (λ (h : Held). LoadedLink michael g.R.Cover.facts (view c.load_key-found.new.self.caller.now.pass) (from_place h.place h.target) 3
    (is_first c.load_key-found.new.self.caller.now.pass) c.load_link-link.ensures.step.0 (view c.load_link-link.new.self.caller.now.pass)) c.same_held-2.ensures c.load_link-link.ensures.step.2

-- what was reached is so after the first load
after_key : (g : _) (c : goal.After-load_link-link g) → HasReachedNext c.load_key-found.new.self.caller.now.pass c.args.root c.args.key c.args.before.now c.args.at.now (view c.args.guard.now.caller.now.pass).own.updates_seen
after_key g c = reached_still c.args.guard.now.caller.now.pass c.load_key-found.new.self.caller.now.pass c.load_key-found.ensures.pass.setup c.args.root c.load_key-found.ensures.keeps c.load_key-found.ensures.answers c.args.key c.args.before.now c.args.at.now c.requires.reached

-- and known by its key
key_rank : (g : _) (c : goal.After-load_link-link g) → rank c.load_key-found.new.self.caller.now.pass (At c.args.at.now) ≡ c.load_key-found.result + 1
key_rank g c =
    (stands_held c.args.guard.now.caller.now.pass c.load_key-found.new.self.caller.now.pass c.load_key-found.ensures.pass.setup c.args.root c.load_key-found.ensures.keeps (At c.args.at.now) c.requires.reached.stands).1
    ∙ rank_loaded c.args.guard.now.caller.now.pass c.load_key-found.new.self.caller.now.pass c.args.at.now c.load_key-found.ensures.step.0 (key_told g c) ∙ ap (λ k. k + 1) (sym c.load_key-found.ensures.step.1)

pub returns-clause-reached : goal.returns-clause-reached
returns-clause-reached g c = reached_still c.load_key-found.new.self.caller.now.pass c.load_link-link.new.self.caller.now.pass c.load_link-link.ensures.pass.setup c.args.root c.load_link-link.ensures.keeps c.load_link-link.ensures.answers c.args.key c.args.before.now c.args.at.now (after_key g c)

pub returns-clause-low : goal.returns-clause-low
returns-clause-low g c =
    (stands_held c.load_key-found.new.self.caller.now.pass c.load_link-link.new.self.caller.now.pass c.load_link-link.ensures.pass.setup c.args.root c.load_link-link.ensures.keeps c.args.before.now (after_key g c).before_it.stands).1
    ∙ (stands_held c.args.guard.now.caller.now.pass c.load_key-found.new.self.caller.now.pass c.load_key-found.ensures.pass.setup c.args.root c.load_key-found.ensures.keeps c.args.before.now c.requires.reached.before_it.stands).1

pub returns-clause-key : goal.returns-clause-key
returns-clause-key g c = (stands_held c.load_key-found.new.self.caller.now.pass c.load_link-link.new.self.caller.now.pass c.load_link-link.ensures.pass.setup c.args.root c.load_link-link.ensures.keeps (At c.args.at.now) (after_key g c).stands).1 ∙ key_rank g c

pub returns-clause-marked : goal.returns-clause-marked
returns-clause-marked g c = let link = c.load_link-link.ensures.step.1 in subst (λ (l : LinkParts). HasMark l → IsMarkNoted c.load_link-link.new.self.caller.now.pass c.args.at.now (unmarked l)) (sym link)
    (mark_noted g.R.Cover.facts c.load_key-found.new.self.caller.now.pass c.load_link-link.new.self.caller.now.pass c.args.root c.args.at.now (is_first c.load_key-found.new.self.caller.now.pass) c.load_link-link.ensures.step.0 (after_key g c).stands (link_told g c))

pub returns-clause-clear : goal.returns-clause-clear
returns-clause-clear g c = let link = c.load_link-link.ensures.step.1 in
    let p = c.load_key-found.new.self.caller.now.pass in let q = c.load_link-link.new.self.caller.now.pass in let at = c.args.at.now in let n = c.load_link-link.ensures.step.0 in
    let stands = (after_key g c).stands in
    subst (λ (l : LinkParts). ¬ HasMark l → (l.flags ≡ 0) × IsLink l × (c.load_key-found.result ≡ c.args.key → HasSeenKey q c.args.key true (view q).own.updates_seen)) (sym link) (λ clear. (
      no_flag g.R.Cover.facts p q c.args.root at (is_first p) n stands (link_told g c) clear,
      in_range g.R.Cover.facts p q c.args.root at (is_first p) n stands (link_told g c),
      λ same. present_there g.R.Cover.facts p q c.args.root at (is_first p) n stands (link_told g c) c.args.key clear c.load_link-link.ensures.pass.setup c.load_link-link.ensures.answers c.load_link-link.ensures.keeps stands.there.started (key_rank g c ∙ ap (λ k. k + 1) same),
    ))

pub returns-clause-did : goal.returns-clause-did
returns-clause-did g c = did_loads c.args.guard.now c.load_key-found.new.self c.load_link-link.new.self c.args.at.now c.load_key-found.result c.load_link-link.result (view c.load_link-link.new.self.caller.now.pass).own.updates_seen c.load_key-found.ensures.same_reference.1
    (subst (λ (h : Held). Did c.args.guard.now (keyed h.target c.load_key-found.result) c.load_key-found.new.self) c.same_held.ensures c.load_key-found.ensures.did)
    (subst (λ (h : Held). Did c.load_key-found.new.self (looked (At h) 3 c.load_link-link.result (view c.load_link-link.new.self.caller.now.pass).own.updates_seen) c.load_link-link.new.self) c.same_held-2.ensures c.load_link-link.ensures.did)
