use Rattle.std.proofs.Common.{arith, refl}
use Rattle.record_rule.proofs.Permitted.{lawful}
use Rattle.record_table.proofs.SamePass.{same_pass}
use Rattle.record_table.proofs.table.Table.swap.Goals as goal

pub swap-requires : goal.swap-requires
swap-requires g c = (
  c.requires.pass.table,
  (let w = c.args.self.now.sized in let h = c.requires.word in omega arith),
  lawful _ _ _ _ _ (λ _. c.args.value) (g.M.Tells.tells c.args.pass.now.seat.me.0) c.requires.lawful,
)

pub returns : goal.returns
returns g c = let adds = c.requires.recorded _ _ c.swap.ensures.2.0 in record { pass = same_pass _ _ c.swap.ensures.0 c.swap.ensures.1 adds.same refl refl; told = c.swap.ensures.2.0; recorded = adds }
