use Rattle.record_memory.specs.Memory.{word_at}
use Rattle.record_rule.specs.Kinds.{ShowsBelow}
use Rattle.record_rule.specs.OwnDraws.{ShowsDrawn}
use Rattle.record_rule.specs.Freeing.{LoadedBy}
use Rattle.record_table.proofs.table.Table.load_control.Given as goal

abbrev pub ghosts-load : goal.ghosts-load
ghosts-load g a = record { tells = λ v n w. LoadedBy g.R.Cover.facts v (word_at v.setup.callers a.word) a.word n w × ShowsBelow v a.word n × ShowsDrawn v a.word n }
