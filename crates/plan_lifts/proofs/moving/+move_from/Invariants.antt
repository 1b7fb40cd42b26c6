use Rattle.std.proofs.Common.{length}
use Rattle.plan_lifts.proofs.moving.+move_from.Given as goal

abbrev pub decreases-move_from : goal.decreases-move_from
decreases-move_from l = length l.plans.now
