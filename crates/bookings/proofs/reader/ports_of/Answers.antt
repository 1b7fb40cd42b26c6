use Rattle.std.proofs.Common.{◌≡◌, ◌<◌, Ok, length, sym, ap, ◌∙◌, arith}
use Rattle.std.proofs.lemmas.Result.{err_from_is_err_and}
use Rattle.toml.specs.View.{view}
use Rattle.toml_values.specs.Values.{is_code, text_that}
use Rattle.bookings.specs.declared.booking_keys.BookingKey.TheVariants as key
use Rattle.bookings.specs.Reading.{of_key}
use Rattle.bookings.proofs.BookingLaws.{all_read, key_read, key_stops, reads_on}
use Rattle.bookings.proofs.reader.ports_of.Goals as goal

pub returns-in_err-port : goal.returns-in_err-port
returns-in_err-port c =
    let vs = c.args.items.now.items in
    let lt : c.loop-item.item-index < length vs = omega (arith, ap length c.deref-item-items.ensures.value) in
    let p = err_from_is_err_and c.from_residual.result c.from_residual.ensures.1 in
    rw (p.1, p.2) (λ _. key_stops key.Rotation 0 (text_that (is_code 35)) vs c.loop-item.item-index c.loop-item.ports c.item-item.result c.code_of.result c.in_err-port.field-0.0 lt (rw c.deref-item-items.ensures.value at c.item-item.is) c.code_of.ensures (sym c.in_err-port.ensures) c.loop-item.invariant)

pub loop-item-preserved : goal.loop-item-preserved
loop-item-preserved c =
    let vs = c.args.items.now.items in
    let lt : c.loop-item.item-index < length vs = omega (arith, ap length c.deref-item-items.ensures.value) in
    let read : text_that (is_code 35) (view c.item-item.result) ≡ Ok c.in_ok-port.port = sym c.code_of.ensures ∙ key_read key.Rotation 0 c.code_of.result c.in_ok-port.port (sym c.in_ok-port.ensures) in
    rw c.in_ok-push.ensures (reads_on (λ _. text_that (is_code 35)) vs c.loop-item.item-index c.loop-item.ports c.item-item.result _ lt (rw c.deref-item-items.ensures.value at c.item-item.is) read c.loop-item.invariant)

pub returns : goal.returns
returns c = ap (of_key key.Rotation 0) (all_read (λ _. text_that (is_code 35)) c.args.items.now.items c.loop-item.item-index c.loop-item.ports (omega (arith, ap length c.deref-item-items.ensures.value)) c.loop-item.invariant)
