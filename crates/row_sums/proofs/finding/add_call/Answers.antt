use Rattle.std.proofs.Common.{true, false}
use Rattle.row_sums.proofs.finding.add_call.Goals as goal

pub add_side-requires-clause-cell : goal.add_side-requires-clause-cell
add_side-requires-clause-cell c = c.requires.cells false

pub add_side-requires-2-clause-cell : goal.add_side-requires-2-clause-cell
add_side-requires-2-clause-cell c = c.requires.cells true

pub add-requires-clause-there : goal.add-requires-clause-there
add-requires-clause-there c = λ h. record { call_in = c.requires.call; item_in = (c.requires.cells false).stack_in }
