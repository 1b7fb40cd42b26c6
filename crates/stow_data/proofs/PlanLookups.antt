-- What is found by number stands at it.
use Rattle.std.proofs.Common.{◌≡◌, ℕ, ◌<◌, zero, suc, [], ◌∷◌, length, Option, Some, None, ap}
use Rattle.std.specs.Prelude.{slice_get}
use Rattle.std.proofs.lemmas.Option.{get_or_from_slice_get, slice_get-get_or}
use Rattle.stow_data.specs.declared.geometry.Place.{Place}
use Rattle.stow_data.specs.declared.cargoes.Container.{Container}
use Rattle.stow_data.specs.Ship.{Ship, places}
use Rattle.stow_data.specs.Shipment.{Cargo}
use Rattle.stow_data.specs.Plans.{Plan, place_at, container_at, held, no_place, no_container}

pub place_is : (ship : Ship) (p : ℕ) (place : Place) → slice_get (places ship) p ≡ Some place → place_at ship p ≡ place
place_is ship p place h = get_or_from_slice_get (places ship) p place no_place h

pub is_place : (ship : Ship) (p : ℕ) → p < length (places ship) → slice_get (places ship) p ≡ Some (place_at ship p)
is_place ship p l = slice_get-get_or (places ship) p no_place l

pub container_is : (cargo : Cargo) (c : ℕ) (container : Container) → slice_get cargo.containers c ≡ Some container → container_at cargo c ≡ container
container_is cargo c container h = get_or_from_slice_get cargo.containers c container no_container h

pub is_container : (cargo : Cargo) (c : ℕ) → c < length cargo.containers → slice_get cargo.containers c ≡ Some (container_at cargo c)
is_container cargo c l = slice_get-get_or cargo.containers c no_container l

pub held_is : (plan : Plan) (p : ℕ) (o : Option ℕ) → slice_get plan p ≡ Some o → held plan p ≡ o
held_is plan p o h = get_or_from_slice_get plan p o None h

pub is_held : (plan : Plan) (p c : ℕ) → held plan p ≡ Some c → slice_get plan p ≡ Some (Some c)
is_held [] p c h = absurd cc
is_held (o ∷ os) zero c h = ap (λ (z : Option ℕ). Some z) h
is_held (o ∷ os) (suc p) c h = is_held os p c h
