use Rattle.stow_gen.proofs.FewRows.{places_are}
use Rattle.stow_gen.proofs.Within.{containers_are, rows_within, vars_within}
use Rattle.stow_gen.proofs.made_texts.made_voyages_are_within.Goals as goal

pub returns-clause-containers : goal.returns-clause-containers
returns-clause-containers c = containers_are

pub returns-clause-places : goal.returns-clause-places
returns-clause-places c = places_are

pub returns-clause-variables : goal.returns-clause-variables
returns-clause-variables c = vars_within

pub returns-clause-rows : goal.returns-clause-rows
returns-clause-rows c = rows_within
