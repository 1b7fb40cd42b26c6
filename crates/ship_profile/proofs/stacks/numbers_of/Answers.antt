use Rattle.std.proofs.Common.{◌<◌, length, sym, ap, ◌∙◌, arith}
use Rattle.toml.specs.View.{items_view}
use Rattle.toml_values.specs.Values.{number_of}
use Rattle.toml_values.specs.Arrays.{each_of}
use Rattle.toml_values.proofs.ArrayLaws.{goes_on, stops, is_read}
use Rattle.ship_profile.specs.declared.faults.ProfileKey.TheVariants as key
use Rattle.ship_profile.specs.Keys.{keyed}
use Rattle.ship_profile.proofs.Keyed.{same_gives}
use Rattle.ship_profile.proofs.stacks.numbers_of.Goals as goal

pub returns-in-Err : goal.returns-in-Err
returns-in-Err c =
    let vs = c.args.items.now.items in
    let lt : c.loop-item.item-index < length vs = omega (arith, ap length c.deref-item-items.ensures.value) in
    let stopped = stops (λ _. number_of 2 98) c.loop-item.numbers vs c.loop-item.item-index c.item-item.result c.in-Err.unread (each_of (number_of 2 98) (items_view vs)) lt (rw c.deref-item-items.ensures.value at c.item-item.is) (sym c.number_of.ensures ∙ c.in-Err.is) c.loop-item.invariant in
    same_gives c.keyed.result _ (ap (keyed key.Tiers c.args.index) stopped ∙ sym c.keyed.ensures)

pub loop-item-preserved : goal.loop-item-preserved
loop-item-preserved c =
    let vs = c.args.items.now.items in
    let lt : c.loop-item.item-index < length vs = omega (arith, ap length c.deref-item-items.ensures.value) in
    rw c.in_ok-push-in-Ok.ensures (goes_on (λ _. number_of 2 98) c.loop-item.numbers vs c.loop-item.item-index c.item-item.result _ (each_of (number_of 2 98) (items_view vs)) lt (rw c.deref-item-items.ensures.value at c.item-item.is) (sym c.number_of.ensures ∙ c.in-Ok.is) c.loop-item.invariant)

pub returns : goal.returns
returns c = ap (keyed key.Tiers c.args.index) (is_read (λ _. number_of 2 98) c.loop-item.numbers c.args.items.now.items c.loop-item.item-index (each_of (number_of 2 98) (items_view c.args.items.now.items)) (omega (arith, ap length c.deref-item-items.ensures.value)) c.loop-item.invariant)
