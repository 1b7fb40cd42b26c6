use Rattle.zero_one_model.proofs.model.Model.rhs.Given as goal

abbrev pub ghost-rhs_of : goal.ghost-rhs_of
ghost-rhs_of a = a.self.now
