use Rattle.record_table.specs.declared.nodes.Node.TheVariants.{At}
use Rattle.record_rule.proofs.LinkLoads.{loads_key}
use Rattle.record_table.proofs.InTable.{in_table}
use Rattle.record_table.proofs.Recording.{adds_key}
use Rattle.record_table.proofs.table.Table.load_key.Goals as goal

pub word_of-word-requires-clause-node : goal.word_of-word-requires-clause-node
word_of-word-requires-clause-node g c = in_table _ c.args.pass.now c.requires.pass.setup (At c.args.node) c.requires.held

pub load-found-requires-clause-lawful : goal.load-found-requires-clause-lawful
load-found-requires-clause-lawful g c = loads_key g.S.Shape.facts g.R.Cover.facts g.S.Shape.laws g.R.Cover.laws _ c.args.self.now.numbers _ _ c.args.node.place _ c.args.node.target c.requires.pass.present c.requires.pass.setup c.word_of-word.ensures.word c.requires.held.holds

pub load-found-requires-clause-recorded : goal.load-found-requires-clause-recorded
load-found-requires-clause-recorded g c = let v = c.args.pass.now.seat.me.0 in λ n w t. adds_key v c.args.node.place _ c.args.node.target c.word_of-word.ensures.named n w t

pub returns-clause-step : goal.returns-clause-step
returns-clause-step g c = (c.load-found.result, c.key_of.ensures.key, c.load-found.ensures.told)
