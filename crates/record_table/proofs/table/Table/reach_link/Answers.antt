use Rattle.std.proofs.Common.{ap, ◌∙◌}
use Rattle.record_rule.proofs.Reaches.{reaches_link}
use Rattle.record_memory.specs.declared.steps.Word.TheVariants.{Field}
use Rattle.record_rule.specs.Links.{index_of}
use Rattle.record_table.specs.Nodes.{origin, reach_at}
use Rattle.record_table.proofs.InTable.{in_table}
use Rattle.record_table.proofs.ReachSteps.{reach_step}
use Rattle.record_table.proofs.Recording.{adds_reach}
use Rattle.record_table.proofs.table.Table.reach_link.Goals as goal

pub word_of-word-requires-clause-node : goal.word_of-word-requires-clause-node
word_of-word-requires-clause-node g c = in_table _ c.args.pass.now c.requires.pass.setup c.args.from c.requires.from

pub load-found-requires-clause-lawful : goal.load-found-requires-clause-lawful
load-found-requires-clause-lawful g c = reaches_link g.S.Shape.facts g.R.Cover.facts g.S.Shape.laws g.R.Cover.laws _ c.args.self.now.numbers _ _ 3 _ (origin c.args.from) (reach_at c.args.pass.now c.args.place)
    (reach_step g.R.Cover.facts _ c.args.pass.now c.requires.pass c.args.from c.requires.from c.args.field _ c.args.place c.word_of-word.ensures.word c.requires.field c.requires.allowed) c.requires.link

pub load-found-requires-clause-recorded : goal.load-found-requires-clause-recorded
load-found-requires-clause-recorded g c = let v = c.args.pass.now.seat.me.0 in
    λ n w t. adds_reach g.S.Shape.facts v (origin c.args.from) 3 _ (c.word_of-word.ensures.named ∙ ap (Field (index_of (origin c.args.from))) c.requires.field) g.R.Cover.facts (reach_at c.args.pass.now c.args.place) _ n w t

pub link_of-requires : goal.link_of-requires
link_of-requires g c = record { packed = c.load-found.ensures.told.link }

pub returns-clause-step : goal.returns-clause-step
returns-clause-step g c = (c.load-found.result, c.link_of.ensures.link, c.load-found.ensures.told)
