use Rattle.std.proofs.Common.{arith, refl, negsuc, ◌-◌}
use Rattle.crossing_pricing.specs.declared.best_pairs.Best.{Best}
use Rattle.crossing_pricing.specs.Climbs.{worth_at, room}
use Rattle.crossing_pricing.proofs.Climbing.{none_from, small_list}
use Rattle.crossing_pricing.proofs.best_pairs.best_from.Goals as goal

pub loop-count-init : goal.loop-count-init
loop-count-init c =
    let x : Best = record { one = negsuc 35184372088831; two = negsuc 35184372088831 } in
    record {
      len = refl;
      best = λ d h le. none_from (worth_at c.args.sides.now c.args.gaps.now c.args.from) c.args.last c.args.floor (c.args.floor - 0) d _ (omega arith);
      small = small_list (room (c.args.floor - 0)) x (record { one = omega arith; two = omega arith }) 14;
    }
