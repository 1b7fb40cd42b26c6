use Rattle.zero_one_rows.proofs.levels.LevelCounts.of.Given as goal

abbrev pub ghost-count_used : goal.ghost-count_used
ghost-count_used g a = g.m
