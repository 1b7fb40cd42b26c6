use Rattle.zero_one_model.proofs.model.Model.keep_chain.Given as goal

abbrev pub ghost-crosses_at : goal.ghost-crosses_at
ghost-crosses_at a = a.self.now
