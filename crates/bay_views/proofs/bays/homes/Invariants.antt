use Rattle.std.proofs.Common.{◌≡◌, take, map}
use Rattle.bay_views.specs.Bays.{home_of}
use Rattle.bay_views.proofs.bays.homes.Given as goal

abbrev pub invariant-loop-group : goal.invariant-loop-group
invariant-loop-group l = l.bays ≡ map (λ g. home_of l.longs g.bay) (take l.group-index l.groups)
