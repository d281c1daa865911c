use Rattle.manager.proofs.types.Guard.place.Given as goal

-- where the author says
abbrev pub ghost-place : goal.ghost-place
ghost-place g a = g.position
