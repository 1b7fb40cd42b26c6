use Rattle.std.proofs.Common.{◌≡◌}
use Rattle.box_parts.proofs.boxes.go_along.Given as goal

abbrev pub invariant-loop-record : goal.invariant-loop-record
invariant-loop-record l = l.kept.voyage ≡ l.model
