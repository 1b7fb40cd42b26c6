use Rattle.row_sums.proofs.Fixing.{fixed_to_zero, fixed_to_one}
use Rattle.row_sums.proofs.row_laws.a_fix_changes_one_side.Goals as goal

pub returns-clause-zero : goal.returns-clause-zero
returns-clause-zero c = fixed_to_zero

pub returns-clause-one : goal.returns-clause-one
returns-clause-one c = fixed_to_one
