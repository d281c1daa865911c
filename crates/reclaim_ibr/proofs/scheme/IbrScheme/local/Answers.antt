use Rattle.reclaim_ibr.proofs.Starting.{starts_local}
use Rattle.reclaim_ibr.proofs.scheme.IbrScheme.local.Goals as goal

pub returns : goal.returns
returns c v s caller callers guard steps moves none = starts_local c.args.caller c.args.callers c.new.result s v caller callers c.requires.caller c.requires.callers c.new.ensures.head c.new.ensures.count guard moves none
