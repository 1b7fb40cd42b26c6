use Rattle.zero_one_model.proofs.model.Model.cost_of.Given as goal

abbrev pub ghost-cost_at : goal.ghost-cost_at
ghost-cost_at g a = g.m
