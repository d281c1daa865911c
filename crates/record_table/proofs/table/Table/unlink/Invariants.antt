use Rattle.record_rule.specs.Links.{ToldUnlink}
use Rattle.record_table.specs.Nodes.{origin}
use Rattle.record_table.proofs.table.Table.unlink.Given as goal

abbrev pub ghosts-exchange_on : goal.ghosts-exchange_on
ghosts-exchange_on g a = record { tells = λ v n w. ToldUnlink g.S.Shape.facts v (origin a.node) 3 a._about.now a.new n w }
