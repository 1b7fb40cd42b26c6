use Rattle.std.proofs.Common.{true}
use Rattle.greedy_loader.specs.Sides.{IsBorneOn}
use Rattle.greedy_loader.proofs.BySide.{by_side}
use Rattle.greedy_loader.proofs.halves.is_borne.Goals as goal

pub returns-then-is_borne_on : goal.returns-then-is_borne_on
returns-then-is_borne_on c = (
  λ h. by_side (IsBorneOn c.args.ship.now c.args.cargo.now c.args.plan.now c.args.place.now c.args.long) (c.is_borne_on.ensures.0 c.if-is_borne_on.true) (c.is_borne_on-then-is_borne_on.ensures.0 h),
  λ x. c.is_borne_on-then-is_borne_on.ensures.1 (x true),
)
