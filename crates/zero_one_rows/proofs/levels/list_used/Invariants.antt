use Rattle.zero_one_rows.proofs.levels.list_used.Given as goal

abbrev pub ghost-list_pairs_at : goal.ghost-list_pairs_at
ghost-list_pairs_at g a = g.m
