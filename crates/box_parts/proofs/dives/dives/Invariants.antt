use Rattle.std.proofs.Common.{◌≡◌}
use Rattle.box_parts.proofs.dives.dives.Given as goal

abbrev pub invariant-loop : goal.invariant-loop
invariant-loop l = l.kept.voyage ≡ l.model
