use Rattle.std.proofs.Common.{arith, refl, inr, ap, ◌∙◌}
use Rattle.record_rule.proofs.LinkLoads.{loads_link}
use Rattle.record_memory.specs.declared.steps.Word.TheVariants.{Field}
use Rattle.record_rule.specs.Links.{index_of}
use Rattle.record_table.specs.Nodes.{origin, is_first}
use Rattle.record_table.proofs.InTable.{in_table, holds_node, link_place}
use Rattle.record_table.proofs.Recording.{adds_link}
use Rattle.record_table.proofs.table.Table.load_link.Goals as goal

pub word_of-word-requires-clause-node : goal.word_of-word-requires-clause-node
word_of-word-requires-clause-node g c = in_table _ c.args.pass.now c.requires.pass.setup c.args.node c.requires.node

pub load-found-requires-clause-lawful : goal.load-found-requires-clause-lawful
load-found-requires-clause-lawful g c = loads_link g.S.Shape.facts g.R.Cover.facts g.S.Shape.laws g.R.Cover.laws _ c.args.self.now.numbers _ _ 3 _ (origin c.args.node) (is_first c.args.pass.now) c.requires.pass.present c.requires.pass.setup
    (link_place _ _ c.args.field _ c.word_of-word.ensures.word c.requires.field) (omega arith) (omega arith) (inr refl) (holds_node _ c.args.pass.now c.requires.pass.setup c.args.node c.requires.node)

pub load-found-requires-clause-recorded : goal.load-found-requires-clause-recorded
load-found-requires-clause-recorded g c = let v = c.args.pass.now.seat.me.0 in λ n w t. adds_link g.S.Shape.facts v (origin c.args.node) 3 _ (c.word_of-word.ensures.named ∙ ap (Field (index_of (origin c.args.node))) c.requires.field) g.R.Cover.facts (is_first c.args.pass.now) n w t

pub link_of-requires : goal.link_of-requires
link_of-requires g c = record { packed = c.load-found.ensures.told.link }

pub returns-clause-step : goal.returns-clause-step
returns-clause-step g c = (c.load-found.result, c.link_of.ensures.link, c.load-found.ensures.told)
