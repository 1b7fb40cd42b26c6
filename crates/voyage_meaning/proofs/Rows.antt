-- Worked rows, by computation.
use Rattle.std.specs.Prelude.{◌≡◌, true, false, List, [], ◌∷◌, Some, None}
use Rattle.std.proofs.Common.{refl}
use Rattle.stow_data.specs.declared.geometry.Span.TheVariants.{Both}
use Rattle.stow_data.specs.declared.geometry.Lengths.TheVariants as offers
use Rattle.stow_data.specs.declared.geometry.Length.TheVariants as long
use Rattle.stow_data.specs.declared.cargoes.Origin.TheVariants as origin
use Rattle.stow_data.specs.Ship.{Ship, places}
use Rattle.stow_data.specs.Shipment.{Cargo}
use Rattle.voyage_meaning.specs.declared.moves.Move.{Move}
use Rattle.voyage_meaning.specs.declared.moves.Move.TheVariants.{OffCover, OnCover, Lift, Put}
use Rattle.voyage_meaning.specs.Moves.{end_of}
use Rattle.voyage_meaning.specs.Voyage.{start, cost}

-- A hold stack of one tier with a plug, a deck stack of one, a cover between; a reefer 1 to 2 and a plain container 1 to 3.
abbrev ship : Ship
ship = record {
  name = 65 ∷ [];
  weight_step = 1000;
  stacks = record { bay = 2; row = 1; lowest = 2; tiers = 1; lengths = offers.Forty; limit_kg = 50000; plugs = true ∷ [] } ∷ record { bay = 2; row = 1; lowest = 82; tiers = 1; lengths = offers.Forty; limit_kg = 50000; plugs = false ∷ [] } ∷ [];
  covers = record { under = 0 ∷ []; on = 1 ∷ [] } ∷ [];
  separations = [];
}

abbrev cargo : Cargo
cargo = record {
  rotation = (65 ∷ []) ∷ (66 ∷ []) ∷ (67 ∷ []) ∷ [];
  tariff = 1 ∷ 7 ∷ [];
  containers = record { id = 65 ∷ []; load = 1; dest = 2; long = long.Forty; kg = 20500; reefer = true; class = None; origin = origin.Booked 0 } ∷ record { id = 66 ∷ []; load = 1; dest = 3; long = long.Forty; kg = 10000; reefer = false; class = None; origin = origin.Booked 1 } ∷ [];
  arrival = None ∷ None ∷ [];
}

two_places : places ship ≡ record { stack = 0; tier = 0; span = Both; plug = true } ∷ record { stack = 1; tier = 0; span = Both; plug = false } ∷ []
unfolding places
two_places = refl

abbrev first : List Move
first = OffCover 0 ∷ Put 0 0 ∷ OnCover 0 ∷ Put 1 1 ∷ []

abbrev second : List Move
second = Lift 1 ∷ OffCover 0 ∷ Lift 0 ∷ OnCover 0 ∷ Put 1 1 ∷ []

after_first : end_of cargo 1 (start ship cargo 1 (None ∷ None ∷ [])) first ≡ record { plan = Some 0 ∷ Some 1 ∷ []; quay = false ∷ false ∷ []; off = false ∷ [] }
after_first = refl

after_second : end_of cargo 2 (start ship cargo 2 (Some 0 ∷ Some 1 ∷ [])) second ≡ record { plan = None ∷ Some 1 ∷ []; quay = false ∷ false ∷ []; off = false ∷ [] }
after_second = refl

-- the plain container is lifted at call 2 to let the reefer out, and that costs the price of call 2
one_rehandle : cost ship cargo 1 (None ∷ None ∷ []) (first ∷ second ∷ []) ((Some 0 ∷ Some 1 ∷ []) ∷ (None ∷ Some 1 ∷ []) ∷ []) ≡ 7
one_rehandle = refl
