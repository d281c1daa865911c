use Rattle.record_rule.specs.Links.{LoadedKey}
use Rattle.record_table.proofs.table.Table.load_key.Given as goal

abbrev pub ghosts-load : goal.ghosts-load
ghosts-load g a = record { tells = λ v n w. LoadedKey v a._about.now.place a._about.now.target n w }
