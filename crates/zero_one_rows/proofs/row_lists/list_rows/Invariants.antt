use Rattle.zero_one_rows.proofs.row_lists.list_rows.Given as goal

abbrev pub ghost-list_pairs : goal.ghost-list_pairs
ghost-list_pairs g a = g.m

abbrev pub ghost-list_filled : goal.ghost-list_filled
ghost-list_filled g a = g.m

abbrev pub ghost-list_uppers : goal.ghost-list_uppers
ghost-list_uppers g a = g.m

abbrev pub ghost-list_lowers : goal.ghost-list_lowers
ghost-list_lowers g a = g.m

abbrev pub ghost-list_hatches : goal.ghost-list_hatches
ghost-list_hatches g a = g.m

abbrev pub ghost-list_near : goal.ghost-list_near
ghost-list_near g a = g.m
