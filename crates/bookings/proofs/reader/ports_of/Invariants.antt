use Rattle.toml_values.specs.Values.{is_code, text_that}
use Rattle.bookings.proofs.BookingLaws.{IsReading}
use Rattle.bookings.proofs.reader.ports_of.Given as goal

abbrev pub invariant-loop-item : goal.invariant-loop-item
invariant-loop-item l = IsReading (λ _. text_that (is_code 35)) l.items.items l.item-index l.ports
