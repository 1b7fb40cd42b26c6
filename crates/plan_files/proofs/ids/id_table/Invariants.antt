use Rattle.plan_files.proofs.Tables.{IsTableBelow}
use Rattle.plan_files.proofs.ids.id_table.Given as goal

abbrev pub invariant-loop-number : goal.invariant-loop-number
invariant-loop-number l = IsTableBelow l.cargo.containers l.number l.table
