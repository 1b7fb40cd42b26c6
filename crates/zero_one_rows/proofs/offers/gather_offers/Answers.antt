use Rattle.std.proofs.Common.{◌<◌, List, ℕ, ap, arith, length, subst}
use Rattle.zero_one_rows.specs.Grouping.{IsGrouped}
use Rattle.zero_one_rows.proofs.Offered.{arrived_grouped}
use Rattle.zero_one_rows.proofs.offers.gather_offers.Goals as goal

pub returns : goal.returns
returns c =
    let same : IsGrouped c.in_ok-keys.keys c.len.result c.in_ok-arrived.arrived = subst (λ (ks : List ℕ). IsGrouped ks c.len.result c.in_ok-arrived.arrived) c.as_slice.ensures c.in_ok-arrived.ensures in
    let many = ap length c.requires.kinds.list in
    record {
      twenty = c.in_ok-suited_places.ensures;
      twenty_plug = c.in_ok-suited_places-2.ensures;
      forty = c.in_ok-suited_places-3.ensures;
      forty_plug = c.in_ok-suited_places-4.ensures;
      arrived = λ g l.
          let low : g < length c.args.kinds.now.list = omega (arith, l, many) in
          arrived_grouped (record { ship = c.args.ship.now; cargo = c.args.cargo.now }) c.in_ok-keys.keys c.len.result g c.in_ok-arrived.arrived same (omega (arith, low, c.len.ensures)) c.in_ok-keys.ensures.each (λ p q. c.in_ok-keys.ensures.kinds g p low q);
    }
