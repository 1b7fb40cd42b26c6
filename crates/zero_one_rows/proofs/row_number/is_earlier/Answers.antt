use Rattle.zero_one_rows.proofs.Found.{earlier_is}
use Rattle.zero_one_rows.proofs.row_number.is_earlier.Goals as goal

pub returns : goal.returns
returns c = earlier_is c.args.a.now c.args.b.now c.lt.result c.lt.ensures
