use Rattle.std.proofs.lemmas.List.Elements.{All-pop}
use Rattle.manager.specs.Callers.{IsResting}
use Rattle.list_tests.proofs.Popping.{popped}
use Rattle.reclaim_none.specs.Starting.{IsLocal}
use Rattle.list_tests.proofs.playing.pop_caller.Goals as goal

pub returns-clause-passes : goal.returns-clause-passes
returns-clause-passes c = (popped c.args.list.now.manager.table c.args.callers.now.items c.pop.new.self.items c.pop.result c.pop.ensures.items c.requires.passes).0

pub returns-clause-of : goal.returns-clause-of
returns-clause-of c = (popped c.args.list.now.manager.table c.args.callers.now.items c.pop.new.self.items c.pop.result c.pop.ensures.items c.requires.passes).1

pub returns-clause-resting : goal.returns-clause-resting
returns-clause-resting c = (All-pop (IsResting IsLocal) c.args.callers.now.items c.pop.new.self.items c.pop.result c.pop.ensures.items c.requires.resting).0

pub returns-clause-caller : goal.returns-clause-caller
returns-clause-caller c = (All-pop (IsResting IsLocal) c.args.callers.now.items c.pop.new.self.items c.pop.result c.pop.ensures.items c.requires.resting).1
