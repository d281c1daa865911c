use Rattle.std.proofs.Common.{◌≡◌, ◌+◌, ◌%◌, ◌^◌}
use Rattle.record_rule.specs.Kinds.{drew, DrewNew}
use Rattle.record_table.proofs.table.Table.add_control.Given as goal

abbrev pub ghosts-add : goal.ghosts-add
ghosts-add g a = record { tells = λ v n w. (w ≡ drew v n) × DrewNew v n × ((n + 1) % 2 ^ 64 ≡ n + 1) }
