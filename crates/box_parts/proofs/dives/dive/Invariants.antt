use Rattle.std.proofs.Common.{◌≡◌}
use Rattle.box_parts.proofs.dives.dive.Given as goal

abbrev pub invariant-loop-x : goal.invariant-loop-x
invariant-loop-x l = l.kept.voyage ≡ l.model
