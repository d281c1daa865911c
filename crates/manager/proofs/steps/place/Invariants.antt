use Rattle.manager.proofs.steps.place.Given as goal

-- where the caller says
abbrev pub ghost-place : goal.ghost-place
ghost-place g a = g.position
