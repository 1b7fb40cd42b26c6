use Rattle.zero_one_model.proofs.model.Model.rhs_of.Given as goal

abbrev pub ghost-right_side : goal.ghost-right_side
ghost-right_side g a = g.m
