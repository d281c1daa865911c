use Rattle.reclaim_debra.proofs.Opening.{opens}
use Rattle.reclaim_debra.proofs.scheme.DebraScheme.local.Goals as goal

pub returns : goal.returns
returns c = λ v s caller callers guard steps moves none. opens s v guard none c.new.result c.new-2.result c.new-3.result c.new.ensures.head c.new.ensures.count c.new-2.ensures.head c.new-2.ensures.count c.new-3.ensures.head c.new-3.ensures.count
