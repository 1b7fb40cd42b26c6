use Rattle.std.proofs.Common.{◌∙◌}
use Rattle.bookings.proofs.IdLaws.{entered}
use Rattle.arrival_plan.proofs.ids.enter.Goals as goal

pub returns : goal.returns
returns c = λ other. c.in_ok-insert.ensures.updates.0 other ∙ entered c.args.id other _
