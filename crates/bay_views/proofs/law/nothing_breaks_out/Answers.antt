use Rattle.bay_views.proofs.Harmless.{written_whole, text_whole, in_whole, all_harmless, all_text_harmless, all_in_harmless}
use Rattle.bay_views.proofs.law.nothing_breaks_out.Goals as goal

pub returns : goal.returns
returns c = record { harmless = all_harmless; set_harmless = all_in_harmless; text_harmless = all_text_harmless; each = written_whole; set_each = in_whole; text_each = text_whole }
