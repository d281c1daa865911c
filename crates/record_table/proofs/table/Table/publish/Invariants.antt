use Rattle.record_rule.specs.Links.{ToldPublish}
use Rattle.record_table.specs.Nodes.{origin}
use Rattle.record_table.proofs.table.Table.publish.Given as goal

abbrev pub ghosts-exchange_on : goal.ghosts-exchange_on
ghosts-exchange_on g a = record { tells = λ v n w. ToldPublish g.S.Shape.facts v (origin a.node) 3 a.old a._about.now.0 a._about.now.1 n w }
