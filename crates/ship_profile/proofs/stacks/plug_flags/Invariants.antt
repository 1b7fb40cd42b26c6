use Rattle.std.proofs.Common.{◌≡◌, map, take}
use Rattle.ship_profile.specs.Stacks.{is_among}
use Rattle.ship_profile.proofs.stacks.plug_flags.Given as goal

abbrev pub invariant-loop-tier : goal.invariant-loop-tier
invariant-loop-tier l = l.flags ≡ map (is_among l.plugs) (take l.tier-index l.tiers)
