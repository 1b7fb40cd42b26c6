-- What the fields of a cargo mean.
use Rattle.stow_data.specs.declared.cargoes.Cargo.TheInside.{Inside}
use Rattle.stow_data.specs.Shipment.{Cargo, IsCargo}

abbrev pub cargo_of : Inside → Cargo
cargo_of a = record { rotation = a.rotation; tariff = a.tariff; containers = a.containers; arrival = a.arrival }

abbrev pub HasRules : Inside → Type 0
HasRules a = IsCargo (cargo_of a)
