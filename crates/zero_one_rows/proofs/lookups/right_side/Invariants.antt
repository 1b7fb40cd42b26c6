use Rattle.zero_one_rows.proofs.lookups.right_side.Given as goal

abbrev pub ghost-loads_at_call : goal.ghost-loads_at_call
ghost-loads_at_call g a = g.m

abbrev pub ghost-crossing_right : goal.ghost-crossing_right
ghost-crossing_right g a = g.m
