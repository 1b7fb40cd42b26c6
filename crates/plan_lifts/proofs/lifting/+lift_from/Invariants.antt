use Rattle.std.proofs.Common.{length}
use Rattle.plan_lifts.proofs.lifting.+lift_from.Given as goal

abbrev pub decreases-lift_from : goal.decreases-lift_from
decreases-lift_from l = length l.plans.now
