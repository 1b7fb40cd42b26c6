use Rattle.zero_one_rows.proofs.offers.Offers.at.Given as goal

abbrev pub ghost-suiting : goal.ghost-suiting
ghost-suiting g a = g.m
