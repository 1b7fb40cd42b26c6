use Rattle.row_sums.proofs.Rowed.{has_parts, are_sums, share_none}
use Rattle.row_sums.proofs.Most.{most_by_sums}
use Rattle.row_sums.proofs.row_laws.rows_are_sums.Goals as goal

pub returns-clause-each : goal.returns-clause-each
returns-clause-each c = has_parts

pub returns-clause-coefficients : goal.returns-clause-coefficients
returns-clause-coefficients c = are_sums

pub returns-clause-apart : goal.returns-clause-apart
returns-clause-apart c = share_none

pub returns-clause-greatest : goal.returns-clause-greatest
returns-clause-greatest c = most_by_sums c.variables_stand_once.ensures.alone
