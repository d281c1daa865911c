use Rattle.record_rule.specs.TakesFree.{LoadedFree}
use Rattle.record_table.proofs.table.Table.take_free.Given as goal

abbrev pub ghosts-load : goal.ghosts-load
ghosts-load g a = record { tells = λ v n w. LoadedFree v a._about.now n w }
