use Rattle.zero_one_rows.proofs.which_rows.has_row.Given as goal

abbrev pub ghost-is_running : goal.ghost-is_running
ghost-is_running g a = g.m

abbrev pub ghost-has_below : goal.ghost-has_below
ghost-has_below g a = g.m

abbrev pub ghost-has_above : goal.ghost-has_above
ghost-has_above g a = g.m

abbrev pub ghost-has_hatch : goal.ghost-has_hatch
ghost-has_hatch g a = g.m

abbrev pub ghost-has_apart : goal.ghost-has_apart
ghost-has_apart g a = g.m

abbrev pub ghost-is_crossing : goal.ghost-is_crossing
ghost-is_crossing g a = g.m
