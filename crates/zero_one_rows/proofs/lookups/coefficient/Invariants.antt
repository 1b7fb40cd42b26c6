use Rattle.zero_one_rows.proofs.lookups.coefficient.Given as goal

abbrev pub ghost-is_crossing_variable : goal.ghost-is_crossing_variable
ghost-is_crossing_variable g a = g.m
