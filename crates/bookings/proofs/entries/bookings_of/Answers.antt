use Rattle.std.proofs.Common.{◌≡◌, ◌<◌, Ok, Err, length, sym, ap, ◌∙◌, arith}
use Rattle.std.proofs.lemmas.Result.{err_from_is_err_and}
use Rattle.toml.specs.View.{view}
use Rattle.toml_values.proofs.ArrayLaws.{count_is}
use Rattle.bookings.specs.Reading.{booking_at}
use Rattle.bookings.proofs.BookingLaws.{all_read, reads_on, stops_at}
use Rattle.bookings.proofs.IdLaws.{one_id_more}
use Rattle.bookings.proofs.entries.bookings_of.Goals as goal

pub booking_at-requires-clause-few : goal.booking_at-requires-clause-few
booking_at-requires-clause-few c = omega (arith, ap length c.deref-entry-items.ensures.value, ap length c.as_slice.ensures, c.loop-entry.invariant.reading.count, count_is c.args.entries.now.items)

pub booking_at-requires-clause-ids : goal.booking_at-requires-clause-ids
booking_at-requires-clause-ids c = rw c.as_slice.ensures c.loop-entry.invariant.ids

pub returns-in_err-booking : goal.returns-in_err-booking
returns-in_err-booking c =
    let vs = c.args.entries.now.items in
    let lt : c.loop-entry.entry-index < length vs = omega (arith, ap length c.deref-entry-items.ensures.value) in
    let read : booking_at c.args.calls c.loop-entry.found (view c.entry-item.result) ≡ Err c.in_err-booking.field-0.0 = ap (λ before. booking_at c.args.calls before (view c.entry-item.result)) (sym c.as_slice.ensures) ∙ sym c.in_err-booking.ensures in
    let p = err_from_is_err_and c.from_residual.result c.from_residual.ensures.1 in
    rw (p.1, p.2) (λ _. stops_at (booking_at c.args.calls) vs c.loop-entry.entry-index c.loop-entry.found c.entry-item.result c.in_err-booking.field-0.0 lt (rw c.deref-entry-items.ensures.value at c.entry-item.is) read c.loop-entry.invariant.reading)

pub loop-entry-preserved : goal.loop-entry-preserved
loop-entry-preserved c =
    let vs = c.args.entries.now.items in
    let lt : c.loop-entry.entry-index < length vs = omega (arith, ap length c.deref-entry-items.ensures.value) in
    let read : booking_at c.args.calls c.loop-entry.found (view c.entry-item.result) ≡ Ok c.in_ok-booking.booking = ap (λ before. booking_at c.args.calls before (view c.entry-item.result)) (sym c.as_slice.ensures) ∙ sym c.in_ok-booking.ensures in
    rw c.in_ok-push.ensures record {
      reading = reads_on (booking_at c.args.calls) vs c.loop-entry.entry-index c.loop-entry.found c.entry-item.result _ lt (rw c.deref-entry-items.ensures.value at c.entry-item.is) read c.loop-entry.invariant.reading;
      ids = one_id_more c.loop-entry.ids _ c.loop-entry.found c.in_ok-booking.booking (rw c.copy.ensures at c.in_ok-enter.ensures) c.loop-entry.invariant.ids;
    }

pub returns : goal.returns
returns c = all_read (booking_at c.args.calls) c.args.entries.now.items c.loop-entry.entry-index c.loop-entry.found (omega (arith, ap length c.deref-entry-items.ensures.value)) c.loop-entry.invariant.reading
