-- The order of the places: by stack, then by tier.
use Rattle.std.specs.Prelude.{ℕ, ◌<◌}
use Rattle.std.proofs.Common.{arith}
use Rattle.stow_data.specs.Ship.{Ship}
use Rattle.stow_data.proofs.InOrder.{higher_is_later}
use Rattle.plan_lifts.specs.Least.{IsOver}

-- what is over a place has a greater number
pub over_is_later : (ship : Ship) (p q : ℕ) → IsOver ship p q → q < p
over_is_later ship p q over = higher_is_later ship p q over.upper over.lower over.is_upper over.is_lower over.same_stack (omega (arith, over.next_tier))
