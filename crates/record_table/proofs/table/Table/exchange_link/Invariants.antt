use Rattle.record_rule.specs.Links.{ToldExchange}
use Rattle.record_table.specs.Nodes.{origin}
use Rattle.record_table.proofs.table.Table.exchange_link.Given as goal

abbrev pub ghosts-exchange_on : goal.ghosts-exchange_on
ghosts-exchange_on g a = record { tells = λ v n w. ToldExchange g.S.Shape.facts v (origin a.node) 3 a.old a.new a._about.now n w }
