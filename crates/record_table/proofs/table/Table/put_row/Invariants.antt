use Rattle.record_table.specs.ToldLinks.{ToldRetire}
use Rattle.record_table.proofs.table.Table.put_row.Given as goal

abbrev pub ghosts-store : goal.ghosts-store
ghosts-store g a = record { tells = ToldRetire a._about.now a.value }
