use Rattle.std.proofs.Common.{arith, refl}
use Rattle.record_rule.proofs.Permitted.{lawful_exchange}
use Rattle.record_table.proofs.SamePass.{same_pass}
use Rattle.record_table.proofs.table.Table.exchange.Goals as goal

pub compare_exchange-requires : goal.compare_exchange-requires
compare_exchange-requires g c = (
  c.requires.pass.table,
  (let w = c.args.self.now.sized in let h = c.requires.word in omega arith),
  lawful_exchange _ _ _ _ _ c.args.expected c.args.new (g.M.Tells.tells c.args.pass.now.seat.me.0) c.requires.lawful,
)

pub returns : goal.returns
returns g c = let adds = c.requires.recorded _ _ c.compare_exchange.ensures.2.0 in record { pass = same_pass _ _ c.compare_exchange.ensures.0 c.compare_exchange.ensures.1 adds.same refl refl; told = c.compare_exchange.ensures.2.0; recorded = adds }
