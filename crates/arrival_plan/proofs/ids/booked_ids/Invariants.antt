use Rattle.std.proofs.Common.{take}
use Rattle.bookings.specs.Ids.{AreIds}
use Rattle.arrival_plan.proofs.ids.booked_ids.Given as goal

abbrev pub invariant-loop-booking : goal.invariant-loop-booking
invariant-loop-booking l = AreIds l.ids (take l.booking-index l.bookings)
