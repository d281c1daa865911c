use Rattle.std.proofs.Common.{ℕ, subst}
use Rattle.record_rule.specs.Shelving.{ToldTake}
use Rattle.record_rule.proofs.TakesChain.{takes_chain}
use Rattle.record_table.specs.Handles.{rule}
use Rattle.record_table.proofs.ShelfSteps.{shelf_back, lawful_take, take_packed, take_says}
use Rattle.record_table.proofs.table.Table.take_shelf.Goals as goal

pub swap-found-requires-clause-lawful : goal.swap-found-requires-clause-lawful
swap-found-requires-clause-lawful g c = lawful_take (rule g.S.Shape.facts g.R.Cover.facts c.args.self.now) _ c.args.pass.now.seat.me.0 c.shelf.result c.args.shelf c.shelf.ensures
    (takes_chain g.S.Shape.facts g.R.Cover.facts _ c.args.self.now.numbers _ c.args.shelf c.args.pass.now.seat.me.0 c.requires.shelf c.requires.pass.present c.requires.pass.setup)

pub ref_of-requires : goal.ref_of-requires
ref_of-requires g c = record { packed = take_packed _ _ _ _ c.swap-found.ensures.told }

pub returns-clause-step : goal.returns-clause-step
returns-clause-step g c = take_says c.args.pass.now.seat.me.0 c.args.shelf c.swap-found.result c.swap-found.new.pass.seat.me.0
    (subst (λ (k : ℕ). ToldTake c.args.pass.now.seat.me.0 k c.swap-found.result c.swap-found.new.pass.seat.me.0) (shelf_back c.shelf.result c.args.shelf c.shelf.ensures) c.swap-found.ensures.told)
    c.ref_of.result c.ref_of.ensures.target
