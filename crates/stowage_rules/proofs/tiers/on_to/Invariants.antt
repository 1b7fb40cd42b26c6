use Rattle.stowage_rules.specs.Tiers.{AreBefore}
use Rattle.stowage_rules.proofs.tiers.on_to.Given as goal

abbrev pub invariant-loop-p : goal.invariant-loop-p
invariant-loop-p l = AreBefore l.ship l.stack l.tier l.p
