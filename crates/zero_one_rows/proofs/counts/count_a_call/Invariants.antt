use Rattle.zero_one_rows.proofs.counts.count_a_call.Given as goal

abbrev pub ghost-count_uppers : goal.ghost-count_uppers
ghost-count_uppers g a = g.m

abbrev pub ghost-count_lowers : goal.ghost-count_lowers
ghost-count_lowers g a = g.m

abbrev pub ghost-count_hatches : goal.ghost-count_hatches
ghost-count_hatches g a = g.m

abbrev pub ghost-count_near : goal.ghost-count_near
ghost-count_near g a = g.m
