use Rattle.zero_one_rows.proofs.crossing.crossing_right.Given as goal

abbrev pub ghost-loads : goal.ghost-loads
ghost-loads g a = g.m
