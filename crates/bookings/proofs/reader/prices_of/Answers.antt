use Rattle.std.proofs.Common.{◌≡◌, ◌<◌, Ok, length, sym, ap, ◌∙◌, arith}
use Rattle.std.proofs.lemmas.Result.{err_from_is_err_and}
use Rattle.toml.specs.View.{view}
use Rattle.toml_values.specs.Values.{number_of}
use Rattle.bookings.specs.declared.booking_keys.BookingKey.TheVariants as key
use Rattle.bookings.specs.Reading.{of_key}
use Rattle.bookings.proofs.BookingLaws.{all_read, key_read, key_stops, reads_on}
use Rattle.bookings.proofs.reader.prices_of.Goals as goal

pub returns-in_err-price : goal.returns-in_err-price
returns-in_err-price c =
    let vs = c.args.items.now.items in
    let lt : c.loop-item.item-index < length vs = omega (arith, ap length c.deref-item-items.ensures.value) in
    let p = err_from_is_err_and c.from_residual.result c.from_residual.ensures.1 in
    rw (p.1, p.2) (λ _. key_stops key.Tariff 0 (number_of 0 1000) vs c.loop-item.item-index c.loop-item.prices c.item-item.result c.number_of.result c.in_err-price.field-0.0 lt (rw c.deref-item-items.ensures.value at c.item-item.is) c.number_of.ensures (sym c.in_err-price.ensures) c.loop-item.invariant)

pub loop-item-preserved : goal.loop-item-preserved
loop-item-preserved c =
    let vs = c.args.items.now.items in
    let lt : c.loop-item.item-index < length vs = omega (arith, ap length c.deref-item-items.ensures.value) in
    let read : number_of 0 1000 (view c.item-item.result) ≡ Ok c.in_ok-price.price = sym c.number_of.ensures ∙ key_read key.Tariff 0 c.number_of.result c.in_ok-price.price (sym c.in_ok-price.ensures) in
    rw c.in_ok-push.ensures (reads_on (λ _. number_of 0 1000) vs c.loop-item.item-index c.loop-item.prices c.item-item.result _ lt (rw c.deref-item-items.ensures.value at c.item-item.is) read c.loop-item.invariant)

pub returns : goal.returns
returns c = ap (of_key key.Tariff 0) (all_read (λ _. number_of 0 1000) c.args.items.now.items c.loop-item.item-index c.loop-item.prices (omega (arith, ap length c.deref-item-items.ensures.value)) c.loop-item.invariant)
