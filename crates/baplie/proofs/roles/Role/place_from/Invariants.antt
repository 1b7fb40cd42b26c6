use Rattle.std.proofs.Common.{◌≡◌, ◌+◌, ◌-◌, ◌≤◌, drop, length}
use Rattle.std.specs.List.{position_or_len}
use Rattle.baplie.specs.Roles.{has_role}
use Rattle.baplie.proofs.roles.Role.place_from.Given as goal

abbrev pub invariant-loop-at : goal.invariant-loop-at
invariant-loop-at l = record {
  within : l.at ≤ length l.segments;
  least : l.from ≤ l.at;
  place : l.at + position_or_len (has_role l.self) (drop l.at l.segments) ≡ l.from + position_or_len (has_role l.self) (drop l.from l.segments);
}

abbrev pub decreases-loop-at : goal.decreases-loop-at
decreases-loop-at l = length l.segments - l.at
