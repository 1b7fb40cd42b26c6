use Rattle.crane_lists.proofs.Bounding.{least_bounds}
use Rattle.crane_lists.proofs.laws.least_rounds_bound_crane_lists.Goals as goal

pub returns : goal.returns
returns c = least_bounds
