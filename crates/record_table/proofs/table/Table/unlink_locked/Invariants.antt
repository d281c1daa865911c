use Rattle.record_rule.specs.LockedLinks.{UnlinkedLocked, ToldLocked}
use Rattle.record_table.specs.Nodes.{origin}
use Rattle.record_table.proofs.table.Table.unlink_locked.Given as goal

abbrev pub ghosts-store_on : goal.ghosts-store_on
ghosts-store_on g a = record { tells = λ v n w. ToldLocked v (origin a.node) 3 (λ x y. UnlinkedLocked g.S.Shape.facts v (origin a.node) 3 x a._about.now a.new y) n w }
