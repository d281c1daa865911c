use Rattle.record_table.specs.Handles.{view, since, is_inside}
use Rattle.reclaim_hazard.specs.LocalStays.{local_born}
use Rattle.reclaim_hazard.proofs.scheme.HazardScheme.birth.Goals as goal

pub returns-clause-local : goal.returns-clause-local
returns-clause-local g c = let p = c.args._pass.now in local_born c.args._local.now (is_inside p) (since p) (view p) c.requires.local
