use Rattle.std.proofs.Common.{◌≡◌, ◌++◌, map, take}
use Rattle.stow_data.proofs.tables.push_tier_places.Given as goal

abbrev pub invariant-loop-span : goal.invariant-loop-span
invariant-loop-span l = l.table ≡ l.initial.table ++ map (λ span. record { stack = l.stack; tier = l.tier; span = span; plug = l.plug }) (take l.span-index l.spans)
