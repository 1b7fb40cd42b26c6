use Rattle.zero_one_rows.proofs.Sizes.{in_range, coefficient_small, right_small}
use Rattle.zero_one_rows.proofs.laws.rows_are_in_range.Goals as goal

pub returns-clause-names : goal.returns-clause-names
returns-clause-names c = in_range

pub returns-clause-coefficients : goal.returns-clause-coefficients
returns-clause-coefficients c = coefficient_small

pub returns-clause-right_sides : goal.returns-clause-right_sides
returns-clause-right_sides c = right_small
