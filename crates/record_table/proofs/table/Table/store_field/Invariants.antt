use Rattle.std.proofs.Common.{◌≡◌}
use Rattle.record_rule.specs.Kinds.{stored, IsOver}
use Rattle.record_table.proofs.table.Table.store_field.Given as goal

abbrev pub ghosts-store : goal.ghosts-store
ghosts-store g a = record { tells = λ v n w. (w ≡ stored v a._about.now.0 a._about.now.1 a.value) × IsOver v a._about.now.0 a._about.now.1 n }
