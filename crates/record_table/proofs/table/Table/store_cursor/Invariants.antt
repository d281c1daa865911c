use Rattle.std.proofs.Common.{◌≡◌}
use Rattle.record_rule.specs.OwnDraws.{drew_own, DrewOwn}
use Rattle.record_table.proofs.table.Table.store_cursor.Given as goal

abbrev pub ghosts-store : goal.ghosts-store
ghosts-store g a = record { tells = λ v n w. (n ≡ a._about.now) × (w ≡ drew_own v a._about.now) × DrewOwn v a._about.now }
