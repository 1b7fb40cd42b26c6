-- What is kept of a plan in the making, from put to put.
use Rattle.std.specs.Prelude.{◌≡◌, ◌↔◌, ℕ, ◌≤◌, ◌<◌, Bool, false, List, Some, None, length, slice_get, Contains, All}
use Rattle.stow_data.specs.declared.geometry.Place.{Place}
use Rattle.stow_data.specs.declared.cargoes.Container.{Container}
use Rattle.stow_data.specs.Ship.{Ship, places, Takes}
use Rattle.stow_data.specs.Shipment.{Cargo}
use Rattle.stow_data.specs.Plans.{Plan}
use Rattle.stowage_rules.specs.Plan.{Holds, Stands, IsWellFormed}
use Rattle.stowage_rules.specs.Departure.{stack_weight}
use Rattle.voyage_meaning.specs.Moves.{IsBare}
use Rattle.greedy_loader.specs.Sides.{IsEmptyOn}
use Rattle.greedy_loader.specs.declared.layout.Layout.{Layout}
use Rattle.greedy_loader.specs.Rule.{NoneEarlierUnder}

-- the weight of each stack
abbrev pub AreWeights : Ship → Cargo → Plan → List ℕ → Type 0
AreWeights ship cargo plan weights = (s w : ℕ) → slice_get weights s ≡ Some w → w ≡ stack_weight ship cargo plan s

-- for each cover whether something stands on it
abbrev pub AreLaden : Ship → Plan → List Bool → Type 0
AreLaden ship plan laden = (k : ℕ) (flag : Bool) → slice_get laden k ≡ Some flag → (flag ≡ false) ↔ IsBare ship plan k

-- for each cover the earliest destination under it: no call up to the last is past it but for those before which something leaves
abbrev pub AreEarliest : Ship → Cargo → Plan → List ℕ → Type 0
AreEarliest ship cargo plan earliest = (k m v : ℕ) → slice_get earliest k ≡ Some m → v ≤ length cargo.rotation → (v ≤ m) ↔ NoneEarlierUnder ship cargo plan v k

-- for each stack a tier above which nothing stands in it
abbrev pub AreTops : Ship → Cargo → Plan → List ℕ → Type 0
AreTops ship cargo plan tops = (s t q d : ℕ) (place : Place) (y : Container) → slice_get tops s ≡ Some t → Stands ship cargo plan q d place y → place.stack ≡ s → place.tier ≤ t

-- the places of all containers that have a class
pub record AreClassed (ship : Ship) (cargo : Cargo) (plan : Plan) (classed : List ℕ) : Type 0 where
  pub inside : All (λ q. q < length (places ship)) classed
  pub each : (q d : ℕ) (place : Place) (y : Container) → Stands ship cargo plan q d place y → (y.class ≡ None → ⊥) → Contains classed q

-- a layout keeps what it says of its well-formed plan
pub record IsKept (ship : Ship) (cargo : Cargo) (layout : Layout) : Type 0 where
  pub formed : IsWellFormed ship cargo layout.plan
  pub each_stack : length layout.weights ≡ length ship.stacks
  pub each_stack_too : length layout.tops ≡ length ship.stacks
  pub each_cover : length layout.laden ≡ length ship.covers
  pub each_cover_too : length layout.earliest ≡ length ship.covers
  pub weights : AreWeights ship cargo layout.plan layout.weights
  pub tops : AreTops ship cargo layout.plan layout.tops
  pub laden : AreLaden ship layout.plan layout.laden
  pub earliest : AreEarliest ship cargo layout.plan layout.earliest
  pub classed : AreClassed ship cargo layout.plan layout.classed

-- a container that may be put: it is of the cargo and stands nowhere yet, and the place is empty and takes its length
pub record CanStand (ship : Ship) (cargo : Cargo) (plan : Plan) (p c : ℕ) (place : Place) (x : Container) : Type 0 where
  pub is_place : slice_get (places ship) p ≡ Some place
  pub free : slice_get plan p ≡ Some None
  pub is_container : slice_get cargo.containers c ≡ Some x
  pub fresh : (q : ℕ) → Holds plan q c → ⊥
  pub length_fits : Takes place x.long
  pub empty : (side : Bool) → IsEmptyOn ship plan place side
