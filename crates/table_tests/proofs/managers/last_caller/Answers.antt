use Rattle.std.proofs.Common.{Some, None, Option, List, ◌≡◌, ◌++◌}
use Rattle.std.specs.Option.{IfSome, option_to_list}
use Rattle.std.proofs.lemmas.List.Elements.{All-pop}
use Rattle.manager.specs.Callers.{IsResting}
use Rattle.table_tests.proofs.Callers.{last_of}
use Rattle.reclaim_none.specs.Starting.{IsLocal}
use Rattle.table_tests.proofs.managers.last_caller.Goals as goal

pub returns-clause-of : goal.returns-clause-of
returns-clause-of c = last_of c.args.manager.now.table c.args.callers.now.items c.pop.new.self.items c.pop.result c.pop.ensures.items c.requires.passes.each

pub returns-clause-caller : goal.returns-clause-caller
returns-clause-caller c = (All-pop (IsResting IsLocal) c.args.callers.now.items c.pop.new.self.items c.pop.result c.pop.ensures.items c.requires.resting).1
