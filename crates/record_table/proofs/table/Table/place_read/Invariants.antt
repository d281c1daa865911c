use Rattle.std.proofs.Common.{◌≡◌}
use Rattle.record_rule.specs.Placing.{placed_view}
use Rattle.record_table.proofs.table.Table.place_read.Given as goal

abbrev pub ghosts-load : goal.ghosts-load
ghosts-load g a = record { tells = λ v n w. w ≡ placed_view v 0 n g.position a._about.now.0 a._about.now.1 }
