use Rattle.zero_one_rows.proofs.EveryRow.{lists_rows, lists_base_rows}
use Rattle.zero_one_rows.proofs.order_laws.rows_are_listed.Goals as goal

pub returns-clause-all : goal.returns-clause-all
returns-clause-all c = λ m r. lists_rows m r

pub returns-clause-base : goal.returns-clause-base
returns-clause-base c = λ m r. lists_base_rows m r
