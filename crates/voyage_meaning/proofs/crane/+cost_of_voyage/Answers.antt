use Rattle.std.proofs.Common.{arith, ap, sym, ◌∙◌, length, get_or, List, suc}
use Rattle.stow_data.specs.Plans.{Plan}
use Rattle.voyage_meaning.proofs.RunsHold.{departs_well}
use Rattle.voyage_meaning.proofs.crane.+cost_of_voyage.Goals as goal

pub cost_of_voyage-requires : goal.cost_of_voyage-requires
cost_of_voyage-requires t c =
    let both = c.in-Some-Some.ensures'.cases in
    let shorter = both.1 in
    let falls = c.decreases in (
      omega (arith, shorter, falls),
      (
        departs_well c.args.ship.now c.args.cargo.now c.args.call c.args.before.now c.as_slice.result.now c.in-Some-Some.after.now c.in_ok-cost_of_call-in-Some-Some.field-0 c.in-Some.here c.in-Some.is c.in_ok-cost_of_call-in-Some-Some.ensures,
        λ k d l. sym (ap (λ (ds : List Plan). length (get_or ds (suc k) d)) both.0) ∙ c.requires.each (suc k) d (omega (arith, shorter)),
      ),
    )
