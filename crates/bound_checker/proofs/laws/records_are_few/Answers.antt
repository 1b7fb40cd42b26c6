use Rattle.bound_checker.proofs.FewRecords.{few}
use Rattle.bound_checker.proofs.laws.records_are_few.Goals as goal

pub returns : goal.returns
returns c = record { few = few }
