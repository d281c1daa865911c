use Rattle.record_memory.specs.Memory.{word_at}
use Rattle.record_rule.specs.ControlSteps.{StoredControl}
use Rattle.record_table.proofs.table.Table.store_control.Given as goal

abbrev pub ghosts-store : goal.ghosts-store
ghosts-store g a = record { tells = λ v n w. StoredControl g.R.Cover.facts v (word_at v.setup.callers a.word) a.value n w }
