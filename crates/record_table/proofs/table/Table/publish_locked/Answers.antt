use Rattle.std.proofs.Common.{arith, refl, sym, ap, subst}
use Rattle.record_memory.specs.declared.books.Setup.{Setup}
use Rattle.row_words.specs.Refs.{RefParts, LinkParts}
use Rattle.row_words.specs.Packing.{IsTarget}
use Rattle.record_rule.specs.HandingOut.{HasOwn}
use Rattle.record_rule.specs.Links.{link_word}
use Rattle.record_rule.specs.LockedLinks.{PublishedLocked, ToldLocked}
use Rattle.record_rule.proofs.LockedPublishes.{publishes_locked}
use Rattle.record_table.specs.Handles.{rule}
use Rattle.record_table.specs.Nodes.{origin}
use Rattle.record_table.proofs.InTable.{in_table, holds_node}
use Rattle.record_table.proofs.LinkWords.{with_value, linked_so}
use Rattle.record_table.proofs.Recording.{adds_publish_locked}
use Rattle.record_table.proofs.table.Table.publish_locked.Goals as goal

pub store_on-requires-clause-node : goal.store_on-requires-clause-node
store_on-requires-clause-node g c = in_table _ c.args.pass.now c.requires.pass.setup c.args.node c.requires.node

pub store_on-requires-clause-lawful : goal.store_on-requires-clause-lawful
store_on-requires-clause-lawful g c = let setup : Setup = c.args.self.now.board.shared.key in let r : RefParts = c.own.inside.record in let a = c.requires.allowed in let v = c.args.pass.now.seat.me.0 in
    with_value (rule g.S.Shape.facts g.R.Cover.facts c.args.self.now) _ v (λ n w. ToldLocked v (origin c.args.node) 3 (λ x y. PublishedLocked g.S.Shape.facts v (origin c.args.node) 3 x r c.args.decides y) n w) _ _ _ _ refl
    (ap (link_word setup (origin c.args.node)) c.to-new.ensures.link)
    (publishes_locked g.S.Shape.facts g.R.Cover.facts g.S.Shape.laws g.R.Cover.laws _ c.args.self.now.numbers _ _ 3 _ (origin c.args.node) a.0 r a.1 a.2 c.args.decides c.requires.pass.present c.requires.pass.setup
    refl (omega arith) (omega arith) (holds_node _ c.args.pass.now c.requires.pass.setup c.args.node c.requires.node) a.3
    (let leads = ap (λ (l : LinkParts). l.target) c.to-new.ensures.link in let in_range = c.to-new.ensures.in_range.target in subst IsTarget leads in_range)
    (subst (λ (x : RefParts). HasOwn v x a.1) (sym c.own.view_is) a.4) a.5 c.requires.decides a.6)

pub store_on-requires-clause-recorded : goal.store_on-requires-clause-recorded
store_on-requires-clause-recorded g c = λ n w t. adds_publish_locked g.S.Shape.facts c.args.pass.now.seat.me.0 (origin c.args.node) 3 _ refl c.args.self.now.board.shared.key c.requires.pass.setup c.to-new.result c.own.inside.record c.args.decides c.to-new.ensures.link n w t

pub returns-clause-step : goal.returns-clause-step
returns-clause-step g c = linked_so g.S.Shape.facts _ _ (origin c.args.node) _ _ c.args.decides _ c.own.view_is c.store_on.ensures.told.1
