use Rattle.std.proofs.Common.{◌≡◌, drop}
use Rattle.ship_profile.specs.Stacks.{rises_from}
use Rattle.ship_profile.proofs.stacks.rises_from.Given as goal

abbrev pub invariant-loop-tier : goal.invariant-loop-tier
invariant-loop-tier l = rises_from l.next (drop l.tier-index l.tiers) ≡ rises_from l.lowest l.tiers
