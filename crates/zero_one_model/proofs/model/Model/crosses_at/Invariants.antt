use Rattle.zero_one_model.proofs.model.Model.crosses_at.Given as goal

abbrev pub ghost-is_crossing_variable : goal.ghost-is_crossing_variable
ghost-is_crossing_variable g a = g.m
