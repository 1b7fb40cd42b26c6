use Rattle.zero_one_rows.proofs.levels.LevelPairs.of.Given as goal

abbrev pub ghost-list_used : goal.ghost-list_used
ghost-list_used g a = g.m
