use Rattle.zero_one_model.proofs.model.Model.coefficient.Given as goal

abbrev pub ghost-coefficient_of : goal.ghost-coefficient_of
ghost-coefficient_of a = a.self.now
