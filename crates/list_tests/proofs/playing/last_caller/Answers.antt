use Rattle.list_tests.proofs.playing.last_caller.Goals as goal

pub pop_caller-requires-clause-passes : goal.pop_caller-requires-clause-passes
pop_caller-requires-clause-passes c = c.requires.passes.each
