use Rattle.zero_one_model.proofs.lots.may_touch.Given as goal

abbrev pub ghost-is_crossing_variable : goal.ghost-is_crossing_variable
ghost-is_crossing_variable g a = g.m
