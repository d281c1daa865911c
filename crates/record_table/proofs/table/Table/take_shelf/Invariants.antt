use Rattle.std.proofs.Common.{◌-◌}
use Rattle.record_rule.specs.Shelving.{ToldTake}
use Rattle.record_table.proofs.table.Table.take_shelf.Given as goal

abbrev pub ghosts-swap : goal.ghosts-swap
ghosts-swap g a = record { tells = λ v n w. ToldTake v (a.word - 4) n w }
