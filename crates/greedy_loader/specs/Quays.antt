-- The containers of a quay go aboard one after the other, each to its choice.
use Rattle.std.specs.Prelude.{◌≡◌, ◌⊎◌, ℕ, ◌<◌, ◌≤◌, Bool, true, false, List, [], ◌∷◌, length, Option, Some, None, slice_get, slice_set}
use Rattle.stow_data.specs.Ship.{Ship}
use Rattle.stow_data.specs.Shipment.{Cargo}
use Rattle.stow_data.specs.Plans.{Plan, container_at}
use Rattle.stowage_rules.specs.Plan.{Holds}
use Rattle.greedy_loader.specs.Rule.{IsChoice}

-- one container goes aboard to its choice, or finds no open place
abbrev pub GoesAboard : Ship → Cargo → Plan → ℕ → Bool → Plan → Type 0
GoesAboard ship cargo plan c true after = (p : ℕ) × IsChoice ship cargo plan (container_at cargo c) (Some p) × (after ≡ slice_set plan p (Some c))
GoesAboard ship cargo plan c false after = IsChoice ship cargo plan (container_at cargo c) None

-- the plan after all of them; none where one finds no open place
abbrev pub IsLoaded : Ship → Cargo → Plan → List ℕ → Option Plan → Type 0
IsLoaded ship cargo plan [] after = after ≡ Some plan
IsLoaded ship cargo plan (c ∷ cs) after = ((p : ℕ) × IsChoice ship cargo plan (container_at cargo c) (Some p) × IsLoaded ship cargo (slice_set plan p (Some c)) cs after) ⊎ (IsChoice ship cargo plan (container_at cargo c) None × (after ≡ None))

-- containers of the cargo, each once, none of which stands anywhere
pub record AreWaiting (cargo : Cargo) (plan : Plan) (quay : List ℕ) : Type 0 where
  pub known : (k c : ℕ) → slice_get quay k ≡ Some c → c < length cargo.containers
  pub once : (j k c : ℕ) → slice_get quay j ≡ Some c → slice_get quay k ≡ Some c → j ≡ k
  pub ashore : (k c : ℕ) → slice_get quay k ≡ Some c → (q : ℕ) → Holds plan q c → ⊥

-- what stands there once a set of places is emptied
abbrev pub kept_of : Option Bool → Option (Option ℕ) → Option (Option ℕ)
kept_of (Some true) (Some o) = Some None
kept_of (Some true) None = None
kept_of (Some false) here = here
kept_of None here = here

-- the plan without what stands at the places of a set
pub record IsWithout (before : Plan) (set : List Bool) (after : Plan) : Type 0 where
  pub each_place : length after ≡ length before
  pub holds : (q : ℕ) → slice_get after q ≡ kept_of (slice_get set q) (slice_get before q)

-- the same at the places below n, and nothing from there on
pub record HoldsUpTo (before : Plan) (set : List Bool) (n : ℕ) (plan : Plan) : Type 0 where
  pub each_place : length plan ≡ length before
  pub below : (q : ℕ) → q < n → slice_get plan q ≡ kept_of (slice_get set q) (slice_get before q)
  pub rest : (q : ℕ) → n ≤ q → q < length before → slice_get plan q ≡ Some None
