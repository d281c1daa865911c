use Rattle.std.proofs.Common.{arith, refl, inr, ◌∙◌, ap}
use Rattle.record_memory.specs.declared.books.Setup.{Setup}
use Rattle.record_rule.specs.Links.{link_word}
use Rattle.record_rule.proofs.Exchanges.{exchanges_link}
use Rattle.record_table.specs.Nodes.{origin}
use Rattle.record_table.proofs.InTable.{in_table, holds_node}
use Rattle.record_table.proofs.Recording.{adds_exchange}
use Rattle.record_table.proofs.table.Table.exchange_link.Goals as goal

pub exchange_on-requires-clause-node : goal.exchange_on-requires-clause-node
exchange_on-requires-clause-node g c = in_table _ c.args.pass.now c.requires.pass.setup c.args.node c.requires.node

pub exchange_on-requires-clause-lawful : goal.exchange_on-requires-clause-lawful
exchange_on-requires-clause-lawful g c = exchanges_link g.S.Shape.facts g.R.Cover.facts g.S.Shape.laws g.R.Cover.laws _ c.args.self.now.numbers _ _ 3 _ (origin c.args.node) c.args.expected c.args.new c.args.decides c.requires.pass.present c.requires.pass.setup
    refl (omega arith) (omega arith) (inr refl) (holds_node _ c.args.pass.now c.requires.pass.setup c.args.node c.requires.node) c.requires.links.0 c.requires.links.1 c.requires.unlocked c.requires.decides c.requires.allowed

pub exchange_on-requires-clause-recorded : goal.exchange_on-requires-clause-recorded
exchange_on-requires-clause-recorded g c = λ n w t. adds_exchange g.S.Shape.facts c.args.pass.now.seat.me.0 (origin c.args.node) 3 _ refl c.args.self.now.board.shared.key c.requires.pass.setup c.args.expected c.args.new c.args.decides n w t

pub exchange_on-requires-clause-refused : goal.exchange_on-requires-clause-refused
exchange_on-requires-clause-refused g c = λ n w t ne. t.refused (λ e. ne (e ∙ ap (λ (k : Setup). link_word k (origin c.args.node) c.args.expected) c.requires.pass.setup))
