-- Worked rows, by computation.
use Rattle.std.specs.Prelude.{◌≡◌, ℕ, true, false, [], ◌∷◌, Some, None}
use Rattle.std.proofs.Common.{refl}
use Rattle.stow_data.specs.declared.geometry.Place.{Place}
use Rattle.stow_data.specs.declared.geometry.Span.TheVariants.{Fore, Aft, Both}
use Rattle.stow_data.specs.declared.geometry.Lengths.TheVariants as offers
use Rattle.stow_data.specs.declared.geometry.Length.TheVariants as long
use Rattle.stow_data.specs.declared.cargoes.Origin.TheVariants as origin
use Rattle.stow_data.specs.Ship.{Ship, places}
use Rattle.stow_data.specs.Shipment.{Cargo}
use Rattle.stow_data.specs.Near.{near}
use Rattle.stowage_rules.specs.Departure.{stack_weight}

-- A hold stack of one tier, a deck stack of one; a reefer of 20,500 kg.
abbrev ship : Ship
ship = record {
  name = 65 ∷ [];
  weight_step = 1000;
  stacks = record { bay = 2; row = 1; lowest = 2; tiers = 1; lengths = offers.Forty; limit_kg = 50000; plugs = true ∷ [] } ∷ record { bay = 2; row = 1; lowest = 82; tiers = 1; lengths = offers.Forty; limit_kg = 50000; plugs = false ∷ [] } ∷ [];
  covers = record { under = 0 ∷ []; on = 1 ∷ [] } ∷ [];
  separations = [];
}

abbrev cargo : Cargo
cargo = record {
  rotation = (65 ∷ []) ∷ (66 ∷ []) ∷ (67 ∷ []) ∷ [];
  tariff = 1 ∷ 1 ∷ [];
  containers = record { id = 65 ∷ []; load = 1; dest = 2; long = long.Forty; kg = 20500; reefer = true; class = None; origin = origin.Booked 0 } ∷ record { id = 66 ∷ []; load = 1; dest = 3; long = long.Forty; kg = 10000; reefer = false; class = None; origin = origin.Booked 1 } ∷ [];
  arrival = None ∷ None ∷ [];
}

-- 20,500 kg round up to 21,000
weighs : stack_weight ship cargo (Some 0 ∷ Some 1 ∷ []) 0 ≡ 21000
unfolding places
weighs = refl

abbrev at : ℕ → ℕ → Place
at stack tier = record { stack = stack; tier = tier; span = Both; plug = false }

abbrev fore : ℕ → ℕ → Place
fore stack tier = record { stack = stack; tier = tier; span = Fore; plug = false }

abbrev aft : ℕ → ℕ → Place
aft stack tier = record { stack = stack; tier = tier; span = Aft; plug = false }

-- level 1: side by side, and above it in a column; not across columns
beside : near ship 1 (fore 0 0) (aft 0 0) ≡ true
beside = refl

above : near ship 1 (at 0 0) (fore 0 1) ≡ true
above = refl

across : near ship 1 (fore 0 0) (aft 0 1) ≡ false
across = refl

two_above : near ship 1 (fore 0 0) (fore 0 2) ≡ false
two_above = refl

-- level 2: the stack; level 3: the bay, hold and deck together
in_stack : near ship 2 (fore 0 0) (aft 0 2) ≡ true
in_stack = refl

other_stack : near ship 2 (at 0 0) (at 1 0) ≡ false
other_stack = refl

in_bay : near ship 3 (at 0 0) (at 1 0) ≡ true
in_bay = refl

-- places with a half-cell in common are not near
same_half : near ship 3 (at 0 0) (fore 0 0) ≡ false
same_half = refl
