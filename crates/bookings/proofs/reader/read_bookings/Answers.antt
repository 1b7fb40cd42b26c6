use Rattle.toml.specs.View.{table_view}
use Rattle.bookings.specs.Reading.{bookings_in}
use Rattle.bookings.specs.Rules.{IsBookings}
use Rattle.bookings.proofs.RuleLaws.{bookings_in_are, valid_where}
use Rattle.bookings.proofs.reader.read_bookings.Goals as goal

pub returns-in-Ok-clause-valid : goal.returns-in-Ok-clause-valid
returns-in-Ok-clause-valid c = valid_where IsBookings c.bookings_in.result (bookings_in (table_view c.in-Ok.top)) c.bookings_in.ensures (bookings_in_are (table_view c.in-Ok.top))
