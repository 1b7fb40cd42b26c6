use Rattle.toml_values.specs.Values.{number_of}
use Rattle.bookings.proofs.BookingLaws.{IsReading}
use Rattle.bookings.proofs.reader.prices_of.Given as goal

abbrev pub invariant-loop-item : goal.invariant-loop-item
invariant-loop-item l = IsReading (λ _. number_of 0 1000) l.items.items l.item-index l.prices
