use Rattle.std.proofs.Common.{rules}
use Rattle.hash_tests.proofs.Alone.{alone}
use Rattle.hash_tests.proofs.reclaimed.only.Goals as goal

pub returns-then-is_empty : goal.returns-then-is_empty
returns-then-is_empty g c = record { only = alone g.R.Scheme.is_local c.args.hash.now.lists.manager.table c.args.callers.items c.pop.new.self.items c.in_ok-caller.caller (search rules) (search rules) c.requires.passes c.requires.resting }
