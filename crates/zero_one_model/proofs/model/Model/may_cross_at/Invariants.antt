use Rattle.zero_one_model.proofs.model.Model.may_cross_at.Given as goal

abbrev pub ghost-may_cross : goal.ghost-may_cross
ghost-may_cross g a = g.m
