use Rattle.arrival_plan.proofs.Onward.{aboard_as}
use Rattle.arrival_plan.proofs.law.none_left_ashore.Goals as goal

pub returns : goal.returns
returns c = λ ship bookings groups cargo read settled i g f at is. aboard_as ship bookings groups cargo read settled.0 i g f at is
