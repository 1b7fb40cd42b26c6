use Rattle.bay_views.proofs.Apart.{lies_in_bay, bays_apart, cells_apart}
use Rattle.bay_views.proofs.law.cells_keep_apart.Goals as goal

pub returns : goal.returns
returns c = record { within = lies_in_bay; bays = bays_apart; cells = cells_apart }
