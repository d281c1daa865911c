use Rattle.std.proofs.Common.{◌≡◌}
use Rattle.record_rule.specs.Kinds.{loaded, IsKnown}
use Rattle.record_table.proofs.table.Table.load_field.Given as goal

abbrev pub ghosts-load : goal.ghosts-load
ghosts-load g a = record { tells = λ v n w. (w ≡ loaded v a._about.now.0 a._about.now.1 n) × IsKnown v a._about.now.0 a._about.now.1 n }
