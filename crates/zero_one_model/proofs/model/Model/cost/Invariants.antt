use Rattle.zero_one_model.proofs.model.Model.cost.Given as goal

abbrev pub ghost-cost_of : goal.ghost-cost_of
ghost-cost_of a = a.self.now
