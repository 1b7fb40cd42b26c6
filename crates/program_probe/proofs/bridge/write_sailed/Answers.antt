use Rattle.program_probe.proofs.Departing.{sailed}
use Rattle.program_probe.proofs.bridge.write_sailed.Goals as goal

pub write_cost-requires-clause-plans : goal.write_cost-requires-clause-plans
write_cost-requires-clause-plans c = sailed c.args.model.now c.args.ship.now c.args.cargo.now c.args.full.now c.in_ok-plans.plans c.requires.ship c.requires.cargo c.in_ok-plans.ensures
