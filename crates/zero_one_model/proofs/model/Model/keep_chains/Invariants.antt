use Rattle.zero_one_model.proofs.model.Model.keep_chains.Given as goal

abbrev pub ghost-may_cross_at : goal.ghost-may_cross_at
ghost-may_cross_at a = a.self.now
