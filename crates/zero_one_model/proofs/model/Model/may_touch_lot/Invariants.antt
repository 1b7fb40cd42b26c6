use Rattle.zero_one_model.proofs.model.Model.may_touch_lot.Given as goal

abbrev pub ghost-may_touch : goal.ghost-may_touch
ghost-may_touch g a = g.m
