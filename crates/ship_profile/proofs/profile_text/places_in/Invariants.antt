use Rattle.std.proofs.Common.{◌≡◌, ◌+◌, ◌*◌, ◌≤◌, length, drop}
use Rattle.std.specs.Prelude.{flat_map}
use Rattle.std.specs.List.{enumerate_from}
use Rattle.stow_data.specs.Ship.{stack_places}
use Rattle.ship_profile.proofs.profile_text.places_in.Given as goal

abbrev pub invariant-loop-stack : goal.invariant-loop-stack
invariant-loop-stack l = record { small : l.count ≤ 294 * l.stack-index; counted : l.count + length (flat_map stack_places (enumerate_from l.stack-index (drop l.stack-index l.stacks))) ≡ length (flat_map stack_places (enumerate_from 0 l.stacks)) }
