-- Where the loader puts a container: open places, clean places, and the choice among them.
use Rattle.std.specs.Prelude.{◌≡◌, ◌⊎◌, ℕ, ◌+◌, ◌<◌, ◌≤◌, Bool, true, false, Option, Some, None, slice_get}
use Rattle.stow_data.specs.declared.geometry.Place.{Place}
use Rattle.stow_data.specs.declared.geometry.Stack.{Stack}
use Rattle.stow_data.specs.declared.geometry.Separation.{Separation}
use Rattle.stow_data.specs.declared.cargoes.Container.{Container}
use Rattle.stow_data.specs.Kinds.{rounded}
use Rattle.stow_data.specs.Ship.{Ship, places, Fits, LiesUnder, StandsOn}
use Rattle.stow_data.specs.Shipment.{Cargo}
use Rattle.stow_data.specs.Plans.{Plan}
use Rattle.stowage_rules.specs.Plan.{Stands}
use Rattle.stow_data.specs.Near.{near, has_column_in_common}
use Rattle.stowage_rules.specs.Departure.{stack_weight}
use Rattle.stowage_rules.specs.Faults.{IsLeast}
use Rattle.voyage_meaning.specs.Moves.{IsBare}
use Rattle.greedy_loader.specs.Sides.{IsEmptyOn, IsBorneOn}

-- a separation names the classes of two containers, in either order
abbrev pub AreSeparated : Separation → Container → Container → Type 0
AreSeparated rule x y = ((x.class ≡ Some rule.a) × (y.class ≡ Some rule.b)) ⊎ ((x.class ≡ Some rule.b) × (y.class ≡ Some rule.a))

-- separation e keeps container x, at this place, from what stands at place q
abbrev pub IsApartBy : Ship → Cargo → Plan → Container → Place → ℕ → ℕ → Type 0
IsApartBy ship cargo plan x place q e = (d : ℕ) (rule : Separation) (other : Place) (y : Container) → slice_get ship.separations e ≡ Some rule → Stands ship cargo plan q d other y → AreSeparated rule x y → near ship rule.level place other ≡ false

-- an open place for container x: it fits by length and plug, the half-cells are empty, those below are filled, for a 20-foot container by 20-foot ones, the stack stays within its limit, all separations are kept against what stands there, and nothing stands on a cover over it
pub record IsOpenAt (ship : Ship) (cargo : Cargo) (plan : Plan) (x : Container) (place : Place) : Type 0 where
  pub fits : Fits place x.long x.reefer
  pub empty : (side : Bool) → IsEmptyOn ship plan place side
  pub borne : (side : Bool) → IsBorneOn ship cargo plan place x.long side
  pub within : (stack : Stack) → slice_get ship.stacks place.stack ≡ Some stack → stack_weight ship cargo plan place.stack + rounded ship.weight_step x.kg ≤ stack.limit_kg
  pub apart : (q e : ℕ) → IsApartBy ship cargo plan x place q e
  pub uncovered : (k : ℕ) → LiesUnder ship place.stack k → IsBare ship plan k

pub record IsOpen (ship : Ship) (cargo : Cargo) (plan : Plan) (x : Container) (p : ℕ) : Type 0 where
  pub place : Place
  pub is_place : slice_get (places ship) p ≡ Some place
  pub is_open : IsOpenAt ship cargo plan x place

-- place q is lower in a column of this place
pub record IsLowerThan (lower upper : Place) : Type 0 where
  pub same_stack : lower.stack ≡ upper.stack
  pub lower_tier : lower.tier < upper.tier
  pub column : has_column_in_common upper.span lower.span ≡ true

-- none of what stands under cover k has an earlier destination than the call
abbrev pub NoneEarlierUnder : Ship → Cargo → Plan → ℕ → ℕ → Type 0
NoneEarlierUnder ship cargo plan call k = (q d : ℕ) (lower : Place) (y : Container) → Stands ship cargo plan q d lower y → LiesUnder ship lower.stack k → call ≤ y.dest

-- what stands at place q, if it is lower in a column of this place, has no earlier destination than the call
abbrev pub NoneEarlierAt : Ship → Cargo → Plan → ℕ → Place → ℕ → Type 0
NoneEarlierAt ship cargo plan call place q = (d : ℕ) (lower : Place) (y : Container) → Stands ship cargo plan q d lower y → IsLowerThan lower place → call ≤ y.dest

-- a clean place for a destination: no container lower in one of its columns, and none under a cover on which it stands, has an earlier one
pub record IsCleanAt (ship : Ship) (cargo : Cargo) (plan : Plan) (dest : ℕ) (place : Place) : Type 0 where
  pub below : (q : ℕ) → NoneEarlierAt ship cargo plan dest place q
  pub under : (k : ℕ) → StandsOn ship place.stack k → NoneEarlierUnder ship cargo plan dest k

-- open and clean for container x
pub record IsClean (ship : Ship) (cargo : Cargo) (plan : Plan) (x : Container) (p : ℕ) : Type 0 where
  pub place : Place
  pub is_place : slice_get (places ship) p ≡ Some place
  pub is_open : IsOpenAt ship cargo plan x place
  pub is_clean : IsCleanAt ship cargo plan x.dest place

-- the choice for container x: the first clean place by number; where none is clean, the first open one; none where none is open
abbrev pub IsChoice : Ship → Cargo → Plan → Container → Option ℕ → Type 0
IsChoice ship cargo plan x (Some p) = IsLeast (IsClean ship cargo plan x) p ⊎ (((q : ℕ) → IsClean ship cargo plan x q → ⊥) × IsLeast (IsOpen ship cargo plan x) p)
IsChoice ship cargo plan x None = (q : ℕ) → IsOpen ship cargo plan x q → ⊥
