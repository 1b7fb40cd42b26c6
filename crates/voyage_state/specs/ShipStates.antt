-- The state of a run, by how much there is.
use Rattle.std.specs.Prelude.{◌≡◌, ◌*◌, All, length}
use Rattle.voyage_state.specs.declared.ship_state.ShipState.TheInside.{Inside}
use Rattle.voyage_state.specs.Ranges.{IsPlanned}

-- a pile and 80 half-cells for each stack, a hatch for each cover, an entry on the quay for each kind
pub record IsShipState (y : Inside) : Type 0 where
  pub each_pile : length y.piles.items ≡ y.sizes.stacks
  pub each_cell : length y.cells.items ≡ y.sizes.stacks * 80
  pub each_hatch : length y.hatches.items ≡ y.sizes.covers
  pub each_kind : length y.quay.items ≡ y.sizes.kinds
  pub stays_in : All (IsPlanned y.sizes) y.stays.items
