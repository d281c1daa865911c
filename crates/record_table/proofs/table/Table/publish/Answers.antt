use Rattle.std.proofs.Common.{arith, refl, inr, sym, ◌∙◌, ap, subst}
use Rattle.record_memory.specs.declared.books.Setup.{Setup}
use Rattle.row_words.specs.Refs.{RefParts, LinkParts}
use Rattle.row_words.specs.Packing.{IsTarget}
use Rattle.record_rule.specs.HandingOut.{HasOwn}
use Rattle.record_rule.specs.Links.{link_word, ToldPublish}
use Rattle.record_rule.proofs.Publishes.{publishes_link}
use Rattle.record_table.specs.Handles.{rule}
use Rattle.record_table.specs.Nodes.{origin}
use Rattle.record_table.proofs.InTable.{in_table, holds_node}
use Rattle.record_table.proofs.LinkWords.{with_words}
use Rattle.record_table.proofs.Recording.{adds_publish}
use Rattle.record_table.proofs.table.Table.publish.Goals as goal

pub exchange_on-requires-clause-node : goal.exchange_on-requires-clause-node
exchange_on-requires-clause-node g c = in_table _ c.args.pass.now c.requires.pass.setup c.args.node c.requires.node

pub exchange_on-requires-clause-lawful : goal.exchange_on-requires-clause-lawful
exchange_on-requires-clause-lawful g c = let setup : Setup = c.args.self.now.board.shared.key in let r : RefParts = c.own.inside.record in
    with_words (rule g.S.Shape.facts g.R.Cover.facts c.args.self.now) _ c.args.pass.now.seat.me.0 (ToldPublish g.S.Shape.facts c.args.pass.now.seat.me.0 (origin c.args.node) 3 c.args.expected r c.args.decides) _ _ _ _ _ _ refl refl
    (ap (link_word setup (origin c.args.node)) c.to-new.ensures.link)
    (publishes_link g.S.Shape.facts g.R.Cover.facts g.S.Shape.laws g.R.Cover.laws _ c.args.self.now.numbers _ _ 3 _ (origin c.args.node) c.args.expected r c.requires.allowed.0 c.requires.allowed.1 c.args.decides c.requires.pass.present c.requires.pass.setup
    refl (omega arith) (omega arith) (inr refl) (holds_node _ c.args.pass.now c.requires.pass.setup c.args.node c.requires.node) c.requires.link c.requires.unlocked
    (let leads = ap (λ (l : LinkParts). l.target) c.to-new.ensures.link in let in_range = c.to-new.ensures.in_range.target in subst IsTarget leads in_range)
    (subst (λ (x : RefParts). HasOwn c.args.pass.now.seat.me.0 x c.requires.allowed.0) (sym c.own.view_is) c.requires.allowed.2) c.requires.allowed.3 c.requires.decides c.requires.allowed.4)

pub exchange_on-requires-clause-recorded : goal.exchange_on-requires-clause-recorded
exchange_on-requires-clause-recorded g c = λ n w t. adds_publish g.S.Shape.facts c.args.pass.now.seat.me.0 (origin c.args.node) 3 _ refl c.args.self.now.board.shared.key c.requires.pass.setup c.args.expected c.to-new.result c.own.inside.record c.args.decides c.to-new.ensures.link n w t

pub exchange_on-requires-clause-refused : goal.exchange_on-requires-clause-refused
exchange_on-requires-clause-refused g c = λ n w t ne. t.refused (λ e. ne (e ∙ ap (λ (k : Setup). link_word k (origin c.args.node) c.args.expected) c.requires.pass.setup))
