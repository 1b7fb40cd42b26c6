use Rattle.std.proofs.Common.{arith}
use Rattle.zero_one_rows.specs.Enumerated.{at_lift}
use Rattle.zero_one_rows.proofs.Added.{adds_flat, lift_few}
use Rattle.zero_one_rows.proofs.listing.add_lifts.Goals as goal

pub loop-lifted-preserved : goal.loop-lifted-preserved
loop-lifted-preserved c =
    let few = lift_few c.args.put c.args.kind c.args.dest c.loop-lifted.lifted c.args.places.now c.requires.few in
    record {
      adds = adds_flat c.args.listing.now c.loop-lifted.listing c.add_lift.new.listing (at_lift c.args.put c.args.kind c.args.dest c.args.places.now) c.loop-lifted.lifted c.loop-lifted.invariant.adds c.in_ok-add_lift.ensures;
      most = omega (arith, few, c.loop-lifted.invariant.most, c.in_ok-add_lift.ensures.counted);
    }
