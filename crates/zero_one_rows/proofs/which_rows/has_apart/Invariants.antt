use Rattle.zero_one_rows.proofs.which_rows.has_apart.Given as goal

abbrev pub ghost-are_near : goal.ghost-are_near
ghost-are_near g a = g.m
