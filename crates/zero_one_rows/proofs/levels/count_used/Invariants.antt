use Rattle.zero_one_rows.proofs.levels.count_used.Given as goal

abbrev pub ghost-count_pairs_at : goal.ghost-count_pairs_at
ghost-count_pairs_at g a = g.m
