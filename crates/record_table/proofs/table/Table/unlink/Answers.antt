use Rattle.std.proofs.Common.{arith, refl, inl, inr, sym, ◌∙◌, ap, subst}
use Rattle.record_memory.specs.declared.books.Setup.{Setup}
use Rattle.row_words.specs.Refs.{LinkParts}
use Rattle.row_words.specs.Packing.{IsTarget}
use Rattle.record_rule.specs.Links.{link_word, ToldUnlink}
use Rattle.record_rule.proofs.Unlinks.{unlinks_record}
use Rattle.record_table.specs.Handles.{rule}
use Rattle.record_table.specs.Nodes.{origin}
use Rattle.record_table.proofs.InTable.{in_table, holds_node}
use Rattle.record_table.proofs.LinkWords.{with_words}
use Rattle.record_table.proofs.Recording.{adds_unlink}
use Rattle.record_table.proofs.table.Table.unlink.Goals as goal

pub exchange_on-requires-clause-node : goal.exchange_on-requires-clause-node
exchange_on-requires-clause-node g c = in_table _ c.args.pass.now c.requires.pass.setup c.args.node c.requires.node

pub exchange_on-requires-clause-lawful : goal.exchange_on-requires-clause-lawful
exchange_on-requires-clause-lawful g c = let setup : Setup = c.args.self.now.board.shared.key in
    with_words (rule g.S.Shape.facts g.R.Cover.facts c.args.self.now) _ c.args.pass.now.seat.me.0 (ToldUnlink g.S.Shape.facts c.args.pass.now.seat.me.0 (origin c.args.node) 3 c.args.gone.target c.args.new) _ _ _ _ _ _ refl
    (ap (link_word setup (origin c.args.node)) c.to-expected.ensures.link) refl
    (unlinks_record g.S.Shape.facts g.R.Cover.facts g.S.Shape.laws g.R.Cover.laws _ c.args.self.now.numbers _ _ 3 c.args.gone.place _ (origin c.args.node) c.args.gone.target c.args.new _ c.requires.pass.present c.requires.pass.setup
    refl (omega arith) (omega arith) (inr refl) (holds_node _ c.args.pass.now c.requires.pass.setup c.args.node c.requires.node) c.requires.gone.holds
    (let leads = ap (λ (l : LinkParts). l.target) c.to-expected.ensures.link in let in_range = c.to-expected.ensures.in_range.target in subst IsTarget leads in_range) c.requires.link (inl refl) c.requires.allowed)

pub exchange_on-requires-clause-recorded : goal.exchange_on-requires-clause-recorded
exchange_on-requires-clause-recorded g c = λ n w t. adds_unlink g.S.Shape.facts c.args.pass.now.seat.me.0 (origin c.args.node) 3 _ refl c.args.self.now.board.shared.key c.requires.pass.setup c.to-expected.result c.args.new c.args.gone.target c.to-expected.ensures.link n w t

pub exchange_on-requires-clause-refused : goal.exchange_on-requires-clause-refused
exchange_on-requires-clause-refused g c = λ n w t ne. t.refused (λ e. ne (e ∙ ap (λ (z : Setup × LinkParts). link_word z.0 (origin c.args.node) z.1) (λ k. (c.requires.pass.setup k, sym c.to-expected.ensures.link k))))
