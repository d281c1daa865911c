use Rattle.lazy_list.proofs.placing.place_by.Given as goal

-- where its caller says
abbrev pub ghost-place : goal.ghost-place
ghost-place g a = g.position
