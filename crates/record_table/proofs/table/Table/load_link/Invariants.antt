use Rattle.record_rule.specs.Links.{LoadedLink}
use Rattle.record_table.specs.Nodes.{origin, is_first}
use Rattle.record_table.proofs.table.Table.load_link.Given as goal

abbrev pub ghosts-load : goal.ghosts-load
ghosts-load g a = record { tells = λ v n w. LoadedLink g.S.Shape.facts g.R.Cover.facts v (origin a._about.now) 3 (is_first a.pass.now) n w }
