use Rattle.zero_one_rows.proofs.InOrder.{rows_rise}
use Rattle.zero_one_rows.proofs.order_laws.rows_are_in_order.Goals as goal

pub returns : goal.returns
returns c = λ m. rows_rise m
