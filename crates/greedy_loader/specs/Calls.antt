-- The loader's rule for a call, and for all calls of a voyage.
use Rattle.std.specs.Prelude.{◌≡◌, ◌⊎◌, ◌↔◌, ℕ, suc, zero, Bool, true, false, List, [], ◌∷◌, Option, Some, None, slice_get, Contains, option_map}
use Rattle.stow_data.specs.declared.cargoes.Container.{Container}
use Rattle.stow_data.specs.Ship.{Ship}
use Rattle.stow_data.specs.Shipment.{Cargo}
use Rattle.stow_data.specs.Plans.{Plan, held}
use Rattle.stowage_rules.specs.Plan.{Holds}
use Rattle.stowage_rules.specs.Faults.{MeetsRules}
use Rattle.voyage_meaning.specs.Moves.{leaves}
use Rattle.plan_lifts.specs.Spread.{has, IsLeastSpread}
use Rattle.greedy_loader.specs.Quays.{IsWithout, IsLoaded}
use Rattle.greedy_loader.specs.Turns.{IsInOrder}

-- ## What is lifted

-- whether the call is the destination of what stands there
abbrev pub is_bound : Cargo → ℕ → Option ℕ → Bool
is_bound cargo call None = false
is_bound cargo call (Some c) = leaves cargo call c

-- the places from which something leaves at the call
abbrev pub leaving : Cargo → ℕ → Plan → ℕ → Bool
leaving cargo call plan p = is_bound cargo call (held plan p)

-- what is lifted at the call: the least set of places that has those from which something leaves, with each place what stands directly above it, and with each place under a cover what stands on that cover
abbrev pub IsLiftedAt : Ship → Cargo → ℕ → Plan → (ℕ → Bool) → Type 0
IsLiftedAt ship cargo call before lifted = IsLeastSpread ship before (leaving cargo call before) lifted

-- ## What waits on the quay

-- container c was lifted from place p and has another destination
pub record GoesBackFrom (cargo : Cargo) (call : ℕ) (before : Plan) (lifted : ℕ → Bool) (p c : ℕ) : Type 0 where
  pub holds : Holds before p c
  pub is_lifted : lifted p ≡ true
  pub stays : leaves cargo call c ≡ false

abbrev pub GoesBack : Cargo → ℕ → Plan → (ℕ → Bool) → ℕ → Type 0
GoesBack cargo call before lifted c = (p : ℕ) × GoesBackFrom cargo call before lifted p c

-- container c loads at the call
pub record LoadsAt (cargo : Cargo) (call c : ℕ) : Type 0 where
  pub container : Container
  pub is_container : slice_get cargo.containers c ≡ Some container
  pub loads : container.load ≡ call

-- on the quay are what was lifted and has another destination, and what loads at the call: each once, in their order
pub record IsQuay (cargo : Cargo) (call : ℕ) (before : Plan) (lifted : ℕ → Bool) (quay : List ℕ) : Type 0 where
  pub waits : (c : ℕ) → Contains quay c ↔ (GoesBack cargo call before lifted c ⊎ LoadsAt cargo call c)
  pub once : (j k c : ℕ) → slice_get quay j ≡ Some c → slice_get quay k ≡ Some c → j ≡ k
  pub order : IsInOrder cargo quay

-- ## A call, and all calls

-- the plan that the rule makes of the plan before at a call: what is lifted is taken out, and what is on the quay goes aboard; none where a container finds no open place
pub record Restows (ship : Ship) (cargo : Cargo) (call : ℕ) (before : Plan) (made : Option Plan) : Type 0 where
  pub lifted : List Bool
  pub is_lifted : IsLiftedAt ship cargo call before (has lifted)
  pub staying : Plan
  pub stays : IsWithout before lifted staying
  pub quay : List ℕ
  pub is_quay : IsQuay cargo call before (has lifted) quay
  pub loads : IsLoaded ship cargo staying quay made

-- a plan that breaks a rule of departures is none
abbrev pub IsJudged : Ship → Cargo → Option Plan → Option Plan → Type 0
IsJudged ship cargo None after = after ≡ None
IsJudged ship cargo (Some plan) after = (MeetsRules ship cargo plan × (after ≡ Some plan)) ⊎ ((MeetsRules ship cargo plan → ⊥) × (after ≡ None))

-- the departure that the rule makes of the plan before at a call, or none
pub record Departs (ship : Ship) (cargo : Cargo) (call : ℕ) (before : Plan) (after : Option Plan) : Type 0 where
  pub made : Option Plan
  pub restows : Restows ship cargo call before made
  pub judged : IsJudged ship cargo made after

-- the departures of so many calls from this one on, each made of the one before; none where one of them is none
abbrev pub DepartFrom : Ship → Cargo → ℕ → Plan → ℕ → Option (List Plan) → Type 0
DepartFrom ship cargo call before zero plans = plans ≡ Some []
DepartFrom ship cargo call before (suc left) plans =
    (Departs ship cargo call before None × (plans ≡ None))
    ⊎ ((after : Plan) × (rest : Option (List Plan)) × Departs ship cargo call before (Some after) × DepartFrom ship cargo (suc call) after left rest × (plans ≡ option_map (λ others. after ∷ others) rest))
