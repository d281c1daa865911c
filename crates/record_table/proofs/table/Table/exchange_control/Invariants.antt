use Rattle.record_rule.proofs.Epochs.{ToldControl}
use Rattle.record_table.proofs.table.Table.exchange_control.Given as goal

abbrev pub ghosts-exchange : goal.ghosts-exchange
ghosts-exchange g a = record { tells = λ v n w. ToldControl v a.word a.expected a.new n w }
