use Rattle.std.proofs.Common.{arith, ◌-◌}
use Rattle.stowage_rules.proofs.Rising.{up_to}
use Rattle.stowage_rules.proofs.tiers.back_to.Goals as goal

pub returns-then-is_before-clause-before : goal.returns-then-is_before-clause-before
returns-then-is_before-clause-before c = λ p place l at. up_to c.args.ship.now (c.args.near - c.loop-steps.steps - 1) c.args.stack c.args.tier c.place.result c.place.ensures (c.is_before.ensures.0 c.if-is_before.true) p place (omega arith) at
