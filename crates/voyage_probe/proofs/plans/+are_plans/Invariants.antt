use Rattle.std.proofs.Common.{length}
use Rattle.voyage_probe.proofs.plans.+are_plans.Given as goal

abbrev pub decreases-are_plans : goal.decreases-are_plans
decreases-are_plans l = length l.plans.now
