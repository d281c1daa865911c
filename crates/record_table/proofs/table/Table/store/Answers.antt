use Rattle.std.proofs.Common.{arith, refl}
use Rattle.record_rule.proofs.Permitted.{lawful_store}
use Rattle.record_table.proofs.SamePass.{same_pass}
use Rattle.record_table.proofs.table.Table.store.Goals as goal

pub store-requires : goal.store-requires
store-requires g c = (
  c.requires.pass.table,
  (let w = c.args.self.now.sized in let h = c.requires.word in omega arith),
  lawful_store _ _ _ _ _ c.args.value (g.M.Tells.tells c.args.pass.now.seat.me.0) c.requires.lawful,
)

pub returns : goal.returns
returns g c = let did = c.store.ensures.2 in let adds = c.requires.recorded _ _ did.1.0 in record { pass = same_pass _ _ c.store.ensures.0 c.store.ensures.1 adds.same refl refl; told = (did.0, did.1.0); recorded = (did.0, adds) }
