-- Rows whose numbers are in range, and the sizes of their parts.
use Rattle.std.specs.Prelude.{◌≡◌, ◌<◌, ◌≤◌, ◌^◌, true, length, unsigned_abs}
use Rattle.stow_data.specs.Ship.{halves, places}
use Rattle.stow_data.specs.Profile.{IsShip}
use Rattle.stow_data.specs.Shipment.{IsCargo}
use Rattle.zero_one_rows.specs.declared.program.Var.{Var}
use Rattle.zero_one_rows.specs.Rows.{has, coef, rhs}
use Rattle.zero_one_rows.specs.declared.program.Row.{Row}
use Rattle.zero_one_rows.specs.declared.program.Row.TheVariants.{Flow, Start, Cell, Support, Twenty, Block, Hatch, Weight, Apart, Cross}
use Rattle.zero_one_rows.specs.Variables.{Voyage, all_kinds}

-- what a row's numbers name is there; a crossing row's price is within the tiers
abbrev pub InRange : Voyage → Row → Type 0
InRange m (Flow q i g) = g < length (all_kinds m)
InRange m (Start q p) = p < length m.cargo.arrival
InRange m (Cell i h) = h < length (halves m.ship)
InRange m (Support i h) = h < length (halves m.ship)
InRange m (Twenty i h) = h < length (halves m.ship)
InRange m (Block j h) = h < length (halves m.ship)
InRange m (Hatch w j h d) = (h < length (halves m.ship)) × (d < length (halves m.ship))
InRange m (Weight i k) = k < length m.ship.stacks
InRange m (Apart i e p q) = (e < length m.ship.separations) × (p < length (places m.ship)) × (q < length (places m.ship))
InRange m (Cross l p c) = p ≤ 39

-- a row that there is names what is there
abbrev pub NamesWhatIsThere : Type 0
NamesWhatIsThere = (m : Voyage) (r : Row) → IsShip m.ship → has m r ≡ true → InRange m r

-- how large coefficients and right sides are
abbrev pub HasSmallCoefficients : Type 0
HasSmallCoefficients = (m : Voyage) (r : Row) (x : Var) → IsShip m.ship → IsCargo m.cargo → has m r ≡ true → unsigned_abs (coef m r x) ≤ 2 ^ 17

abbrev pub HasSmallRightSides : Type 0
HasSmallRightSides = (m : Voyage) (r : Row) → IsShip m.ship → IsCargo m.cargo → has m r ≡ true → unsigned_abs (rhs m r) ≤ 2 ^ 37
