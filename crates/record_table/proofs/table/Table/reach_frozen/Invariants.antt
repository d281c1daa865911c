use Rattle.record_rule.specs.FrozenLinks.{FollowedLink}
use Rattle.record_table.specs.Nodes.{origin, reach_at}
use Rattle.record_table.proofs.table.Table.reach_frozen.Given as goal

abbrev pub ghosts-load : goal.ghosts-load
ghosts-load g a = record { tells = λ v n w. FollowedLink g.S.Shape.facts g.R.Cover.facts v (origin a._about.now.0) 3 (reach_at a.pass.now a._about.now.1) n w }
