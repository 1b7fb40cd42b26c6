use Rattle.zero_one_model.proofs.model.Model.select_lot.Given as goal

abbrev pub ghost-may_touch_lot : goal.ghost-may_touch_lot
ghost-may_touch_lot a = a.self.now
