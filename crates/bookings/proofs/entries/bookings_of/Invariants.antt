use Rattle.bookings.specs.Ids.{AreIds}
use Rattle.bookings.specs.Reading.{booking_at}
use Rattle.bookings.proofs.BookingLaws.{IsReading}
use Rattle.bookings.proofs.entries.bookings_of.Given as goal

abbrev pub invariant-loop-entry : goal.invariant-loop-entry
invariant-loop-entry l = record {
  reading : IsReading (booking_at l.calls) l.entries.items l.entry-index l.found;
  ids : AreIds l.ids l.found;
}
