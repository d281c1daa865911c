use Rattle.std.proofs.Common.{◌≡◌}
use Rattle.record_rule.specs.Kinds.{IsOver}
use Rattle.record_rule.specs.Asides.{put_aside}
use Rattle.record_table.proofs.table.Table.store_aside.Given as goal

abbrev pub ghosts-store : goal.ghosts-store
ghosts-store g a = record { tells = λ v n w. (w ≡ put_aside v a._about.now a.value) × IsOver v a._about.now 1 n }
