use Rattle.std.proofs.Common.{false}
use Rattle.reclaim_hazard.proofs.Starting.{starts_local}
use Rattle.reclaim_hazard.proofs.scheme.HazardScheme.local.Goals as goal

pub returns : goal.returns
returns c v s caller callers guard steps moves none = starts_local _ false s v caller callers c.requires.caller c.requires.callers c.new.ensures.head c.new.ensures.count guard none
