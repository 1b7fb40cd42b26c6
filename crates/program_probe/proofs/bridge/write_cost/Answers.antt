use Rattle.program_probe.proofs.Departing.{formed}
use Rattle.program_probe.proofs.bridge.write_cost.Goals as goal

pub lifts-requires-clause-formed : goal.lifts-requires-clause-formed
lifts-requires-clause-formed c = formed c.args.ship.now c.args.cargo.now 1 c.args.plans.now c.requires.plans.legal
