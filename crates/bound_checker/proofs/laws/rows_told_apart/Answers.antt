use Rattle.bound_checker.proofs.RowsOrdered.{order_same}
use Rattle.bound_checker.proofs.laws.rows_told_apart.Goals as goal

pub returns : goal.returns
returns c = record { order = order_same }
