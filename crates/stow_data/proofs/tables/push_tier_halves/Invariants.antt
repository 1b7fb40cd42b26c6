use Rattle.std.proofs.Common.{◌≡◌, ◌++◌, map, take}
use Rattle.stow_data.proofs.tables.push_tier_halves.Given as goal

abbrev pub invariant-loop-side : goal.invariant-loop-side
invariant-loop-side l = l.table ≡ l.initial.table ++ map (λ side. record { stack = l.stack; tier = l.tier; aft = side }) (take l.side-index l.sides)
