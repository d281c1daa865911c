use Rattle.std.proofs.Common.{◌-◌}
use Rattle.record_table.specs.ToldShelves.{ToldPut}
use Rattle.record_table.proofs.table.Table.give_shelf.Given as goal

abbrev pub ghosts-exchange : goal.ghosts-exchange
ghosts-exchange g a = record { tells = λ v n w. ToldPut v (a.word - 4) a.new n w }
