use Rattle.std.proofs.Common.{◌∙◌, ap, arith, refl}
use Rattle.row_words.specs.Refs.{RefParts}
use Rattle.record_rule.proofs.ChainRows.{owns_loaded, still_load}
use Rattle.record_table.proofs.RowLoads.{row_loaded}
use Rattle.record_table.proofs.rows.RowsChainWords.load_chain.Goals as goal

pub returns-clause-owned : goal.returns-clause-owned
returns-clause-owned g c = let p = c.load_field-found.ensures.pass in λ q o. (record { table = p.table ∙ o.0.table; setup = p.setup ∙ o.0.setup; present = p.present ∙ o.0.present }, owns_loaded _ _ _ _ _ c.load_field-found.ensures.step q o.1)

pub returns-clause-same : goal.returns-clause-same
returns-clause-same g c = (refl, refl, c.load_field-found.ensures.pass, still_load _ _ _ _ _ c.load_field-found.ensures.step (omega arith))

pub returns-clause-made : goal.returns-clause-made
returns-clause-made g c = row_loaded _ _ c.r.inside.index _ _ _ (ap (λ (z : RefParts). z.index) c.r.view_is) c.load_field-found.ensures.found c.load_field-found.ensures.step
