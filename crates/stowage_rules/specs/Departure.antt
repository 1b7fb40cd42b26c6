-- The five rules of a departure, and when a plan is a departure of a call (cells as in ISO 9711).
use Rattle.std.specs.Prelude.{◌≡◌, ℕ, ◌+◌, ◌≤◌, suc, List, [], ◌∷◌, Bool, false, ◌==◌, cond, Option, Some, None, slice_get, IsTrue, ◌↔◌, zip, sum_by}
use Rattle.stow_data.specs.declared.geometry.Stack.{Stack}
use Rattle.stow_data.specs.declared.geometry.Separation.{Separation}
use Rattle.stow_data.specs.declared.geometry.Half.{Half}
use Rattle.stow_data.specs.declared.geometry.Place.{Place}
use Rattle.stow_data.specs.declared.geometry.Length.TheVariants.{Twenty}
use Rattle.stow_data.specs.declared.cargoes.Container.{Container}
use Rattle.stow_data.specs.Kinds.{rounded}
use Rattle.stow_data.specs.Ship.{Ship, places}
use Rattle.stow_data.specs.Shipment.{Cargo, IsAboard}
use Rattle.stow_data.specs.Plans.{Plan}
use Rattle.stow_data.specs.Near.{near}
use Rattle.stowage_rules.specs.Plan.{Holds, Fills, Stands, IsWellFormed}

-- a half-cell of a stack, by tier from the bottom
abbrev pub half_of : ℕ → ℕ → Bool → Half
half_of stack tier aft = record { stack = stack; tier = tier; aft = aft }

-- support: where a half-cell is filled, the one below it, if there is one, is filled
abbrev pub IsSupported : Ship → Plan → Type 0
IsSupported ship plan = (stack tier : ℕ) (aft : Bool) (c : ℕ) → Fills ship plan (half_of stack (tier + 1) aft) c → (d : ℕ) × Fills ship plan (half_of stack tier aft) d

-- a 20-foot container
abbrev pub IsTwenty : Cargo → ℕ → Type 0
IsTwenty cargo c = (container : Container) × (slice_get cargo.containers c ≡ Some container) × (container.long ≡ Twenty)

-- twenty on forty: below a 20-foot container stands none but a 20-foot one
abbrev pub IsTwentyOnTwenty : Ship → Cargo → Plan → Type 0
IsTwentyOnTwenty ship cargo plan = (stack tier : ℕ) (aft : Bool) (c d : ℕ) → Fills ship plan (half_of stack (tier + 1) aft) c → Fills ship plan (half_of stack tier aft) d → IsTwenty cargo c → IsTwenty cargo d

-- plug: a reefer stands in a place with a plug
abbrev pub IsPlugged : Ship → Cargo → Plan → Type 0
IsPlugged ship cargo plan = (p c : ℕ) (place : Place) (container : Container) → Stands ship cargo plan p c place container → IsTrue container.reefer → IsTrue place.plug

-- the rounded weight of what stands at a place, where that is in the stack
abbrev pub weight_in : ℕ → Cargo → ℕ → Place × Option ℕ → ℕ
weight_in step cargo s e = cond (e.0.stack == s) (weight_of (e.1)) 0
  where
    weight_of_container : Option Container → ℕ
    weight_of_container None = 0
    weight_of_container (Some c) = rounded step c.kg

    weight_of : Option ℕ → ℕ
    weight_of None = 0
    weight_of (Some c) = weight_of_container (slice_get cargo.containers c)

abbrev pub stack_weight : Ship → Cargo → Plan → ℕ → ℕ
stack_weight ship cargo plan s = sum_by (weight_in ship.weight_step cargo s) (zip (places ship) plan)

-- stack weight: the rounded weights in a stack come to its limit at most
abbrev pub IsWithinLimits : Ship → Cargo → Plan → Type 0
IsWithinLimits ship cargo plan = (s : ℕ) (stack : Stack) → slice_get ship.stacks s ≡ Some stack → stack_weight ship cargo plan s ≤ stack.limit_kg

-- separation e: no container of its class a stands near one of its class b
abbrev pub IsSeparatedBy : Ship → Cargo → Plan → ℕ → Type 0
IsSeparatedBy ship cargo plan e = (rule : Separation) (p q c d : ℕ) (first second : Place) (x y : Container) → slice_get ship.separations e ≡ Some rule → Stands ship cargo plan p c first x → Stands ship cargo plan q d second y → x.class ≡ Some rule.a → y.class ≡ Some rule.b → near ship rule.level first second ≡ false

abbrev pub IsSeparated : Ship → Cargo → Plan → Type 0
IsSeparated ship cargo plan = (e : ℕ) → IsSeparatedBy ship cargo plan e

-- the plan holds exactly the containers that are aboard after the call
abbrev pub HoldsAboard : Cargo → ℕ → Plan → Type 0
HoldsAboard cargo call plan = (c : ℕ) (container : Container) → slice_get cargo.containers c ≡ Some container → ((p : ℕ) × Holds plan p c) ↔ IsAboard call container

-- a well-formed plan of exactly the containers that are aboard after the call, by the first three rules
pub record IsStowed (ship : Ship) (cargo : Cargo) (call : ℕ) (plan : Plan) : Type 0 where
  pub well_formed : IsWellFormed ship cargo plan
  pub aboard : HoldsAboard cargo call plan
  pub supported : IsSupported ship plan
  pub twenty : IsTwentyOnTwenty ship cargo plan
  pub plugged : IsPlugged ship cargo plan

-- a legal departure of the call: all five rules
pub record IsDeparture (ship : Ship) (cargo : Cargo) (call : ℕ) (plan : Plan) : Type 0 where
  pub stowed : IsStowed ship cargo call plan
  pub within : IsWithinLimits ship cargo plan
  pub separated : IsSeparated ship cargo plan

-- the arrival: what is aboard before call 1, by the first three rules alone
abbrev pub HasArrival : Ship → Cargo → Type 0
HasArrival ship cargo = IsStowed ship cargo 0 cargo.arrival

-- legal departures of each call from this one on
abbrev pub AreDepartures : Ship → Cargo → ℕ → List Plan → Type 0
AreDepartures ship cargo call [] = Unit {0}
AreDepartures ship cargo call (plan ∷ plans) = IsDeparture ship cargo call plan × AreDepartures ship cargo (suc call) plans
