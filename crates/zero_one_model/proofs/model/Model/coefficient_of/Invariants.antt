use Rattle.zero_one_model.proofs.model.Model.coefficient_of.Given as goal

abbrev pub ghost-coefficient : goal.ghost-coefficient
ghost-coefficient g a = g.m
