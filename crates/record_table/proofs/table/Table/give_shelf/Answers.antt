use Rattle.std.proofs.Common.{ℕ, subst}
use Rattle.record_rule.proofs.GivesChain.{gives_chain}
use Rattle.record_table.specs.Handles.{rule}
use Rattle.record_table.specs.ToldShelves.{ToldPut}
use Rattle.record_table.proofs.ShelfSteps.{shelf_back, lawful_put, head_is_ref, put_says}
use Rattle.record_table.proofs.table.Table.give_shelf.Goals as goal

pub exchange-found-requires-clause-lawful : goal.exchange-found-requires-clause-lawful
exchange-found-requires-clause-lawful g c = lawful_put (rule g.S.Shape.facts g.R.Cover.facts c.args.self.now) _ c.args.pass.now.seat.me.0 c.shelf.result c.args.shelf c.shelf.ensures c.args.head c.requires.chain.0 c.pack_ref.result c.pack_ref.ensures.number c.requires.chain.1
    (gives_chain g.S.Shape.facts g.R.Cover.facts _ c.args.self.now.numbers _ c.args.shelf c.args.pass.now.seat.me.0 c.args.head c.requires.chain.0 c.requires.shelf c.requires.pass.present c.requires.pass.setup c.requires.chain.1)

pub returns-then-found-eq0-clause-step : goal.returns-then-found-eq0-clause-step
returns-then-found-eq0-clause-step g c = put_says c.args.pass.now.seat.me.0 c.args.shelf c.pack_ref.result c.exchange-found.result c.exchange-found.new.pass.seat.me.0 c.args.head
    (head_is_ref c.args.pass.now.seat.me.0 c.args.head c.requires.chain.0 c.requires.chain.1) c.pack_ref.ensures.number
    (subst (λ (k : ℕ). ToldPut c.args.pass.now.seat.me.0 k c.pack_ref.result c.exchange-found.result c.exchange-found.new.pass.seat.me.0) (shelf_back c.shelf.result c.args.shelf c.shelf.ensures) c.exchange-found.ensures.told)
    c.if-found-eq0.true
