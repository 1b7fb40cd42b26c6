use Rattle.std.proofs.Common.{ℕ, ◌<◌, ◌≤◌, length}
use Rattle.stow_data.specs.Ship.{places}
use Rattle.stowage_rules.specs.Faults.{OfHalf}
use Rattle.voyage_meaning.specs.Stacks.{IsFilledOn}
use Rattle.voyage_meaning.proofs.standing.first_in_stack.Given as goal

abbrev pub invariant-loop-h : goal.invariant-loop-h
invariant-loop-h l = record {
  inside : l.near ≤ length (places l.ship);
  none : (n : ℕ) → n < l.h → OfHalf l.ship (IsFilledOn l.ship l.plan l.stack) n → ⊥;
}
