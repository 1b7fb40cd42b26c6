use Rattle.zero_one_rows.proofs.VariableList.{var_listed, var_number, var_once}
use Rattle.zero_one_rows.proofs.laws.variables_stand_once.Goals as goal

pub returns-clause-alone : goal.returns-clause-alone
returns-clause-alone c = var_listed

pub returns-clause-each : goal.returns-clause-each
returns-clause-each c = var_number

pub returns-clause-once : goal.returns-clause-once
returns-clause-once c = var_once
