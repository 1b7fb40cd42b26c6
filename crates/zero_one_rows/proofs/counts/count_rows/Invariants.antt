use Rattle.zero_one_rows.proofs.counts.count_rows.Given as goal

abbrev pub ghost-count_pairs : goal.ghost-count_pairs
ghost-count_pairs g a = g.m

abbrev pub ghost-count_filled : goal.ghost-count_filled
ghost-count_filled g a = g.m

abbrev pub ghost-count_a_call : goal.ghost-count_a_call
ghost-count_a_call g a = g.m
