use Rattle.std.proofs.Common.{◌≡◌}
use Rattle.record_rule.specs.Kinds.{IsKnown}
use Rattle.record_rule.specs.Asides.{took_spare}
use Rattle.record_table.proofs.table.Table.load_spare.Given as goal

abbrev pub ghosts-load : goal.ghosts-load
ghosts-load g a = record { tells = λ v n w. (w ≡ took_spare v a._about.now n) × IsKnown v a._about.now 1 n }
