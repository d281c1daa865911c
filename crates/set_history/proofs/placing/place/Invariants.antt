use Rattle.set_history.proofs.placing.place.Given as goal

-- where the caller says
abbrev pub ghost-place_read : goal.ghost-place_read
ghost-place_read g a = g.position
