use Rattle.program_probe.proofs.Departing.{formed}
use Rattle.program_probe.proofs.bridge.write_lifted.Goals as goal

pub write_voyage-requires-clause-plans : goal.write_voyage-requires-clause-plans
write_voyage-requires-clause-plans c = formed c.args.ship.now c.args.cargo.now 1 c.args.plans.now c.requires.plans.legal
