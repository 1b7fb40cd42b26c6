use Rattle.std.proofs.Common.{◌<◌, length, arith}
use Rattle.zero_one_rows.specs.Counted.{base_rows}
use Rattle.row_matrix.proofs.BaseFirst.{base_place}
use Rattle.node_work.proofs.retracing.base_number.Goals as goal

pub returns-then-number-base_rows-clause-is : goal.returns-then-number-base_rows-clause-is
returns-then-number-base_rows-clause-is c =
    let lt : c.in_ok-number.number < length (base_rows c.args.model.now) = omega (arith, c.if-number-base_rows.true, c.base_rows.ensures) in
    base_place c.args.model.now c.in_ok-number.number c.args.row.now lt c.in_ok-number.ensures
