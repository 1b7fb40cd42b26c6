-- The moves of a crane at a call: when each is allowed, and the state after it (cells as in ISO 9711).
use Rattle.std.specs.Prelude.{◌≡◌, ℕ, ◌+◌, Bool, true, false, List, [], ◌∷◌, Option, Some, None, slice_get, slice_set, slice_index_or, cond, ◌==◌}
use Rattle.stow_data.specs.declared.geometry.Place.{Place}
use Rattle.stow_data.specs.declared.geometry.Length.{Length}
use Rattle.stow_data.specs.declared.geometry.Length.TheVariants.{Twenty, Forty}
use Rattle.stow_data.specs.declared.cargoes.Container.{Container}
use Rattle.stow_data.specs.Ship.{Ship, places, TakesSide, half_at, half_over, Fits, LiesUnder, StandsOn}
use Rattle.stow_data.specs.Shipment.{Cargo, price}
use Rattle.voyage_meaning.specs.declared.moves.Move.{Move}
use Rattle.voyage_meaning.specs.declared.moves.Move.TheVariants.{OffCover, OnCover, Lift, Put}
use Rattle.stow_data.specs.Plans.{Plan}
use Rattle.stowage_rules.specs.Plan.{Holds, Fills}
use Rattle.stowage_rules.specs.Departure.{half_of, IsTwenty}

-- the state at a call: the plan, for each container whether it is on the quay, for each hatch cover whether it is off
pub record State : Type 0 where
  pub plan : Plan
  pub quay : List Bool
  pub off : List Bool

-- nothing stands directly above the place
abbrev pub IsClear : Ship → Plan → Place → Type 0
IsClear ship plan p = (side : Bool) (c : ℕ) → TakesSide p.span side → Fills ship plan (half_over p side) c → ⊥

-- a container of this length may stand on the one directly below: a 20-foot one on a 20-foot one alone
abbrev pub Bears : Cargo → Length → ℕ → Type 0
Bears cargo Forty below = Unit {0}
Bears cargo Twenty below = IsTwenty cargo below

-- a lift: the place is filled, nothing is directly above it, a cover over it is off
pub record CanLift (ship : Ship) (s : State) (p : ℕ) : Type 0 where
  pub place : Place
  pub is_place : slice_get (places ship) p ≡ Some place
  pub container : ℕ
  pub filled : Holds s.plan p container
  pub clear : IsClear ship s.plan place
  pub cover_off : (k : ℕ) → LiesUnder ship place.stack k → slice_get s.off k ≡ Some true

-- a put: the container is on the quay and fits, a cover over the place is off and a cover under its stack is on, its half-cells are empty, and each half-cell directly below is filled, for a 20-foot container by a 20-foot one
pub record CanPut (ship : Ship) (cargo : Cargo) (s : State) (c p : ℕ) : Type 0 where
  pub place : Place
  pub is_place : slice_get (places ship) p ≡ Some place
  pub container : Container
  pub is_container : slice_get cargo.containers c ≡ Some container
  pub on_quay : slice_get s.quay c ≡ Some true
  pub fits : Fits place container.long container.reefer
  pub cover_off : (k : ℕ) → LiesUnder ship place.stack k → slice_get s.off k ≡ Some true
  pub cover_on : (k : ℕ) → StandsOn ship place.stack k → slice_get s.off k ≡ Some false
  pub empty : (side : Bool) (d : ℕ) → TakesSide place.span side → Fills ship s.plan (half_at place side) d → ⊥
  pub borne : (side : Bool) (t : ℕ) → TakesSide place.span side → place.tier ≡ t + 1 → (d : ℕ) × Fills ship s.plan (half_of place.stack t side) d × Bears cargo container.long d

-- no stack on the cover holds anything
abbrev pub IsBare : Ship → Plan → ℕ → Type 0
IsBare ship plan k = (p c : ℕ) (place : Place) → slice_get (places ship) p ≡ Some place → StandsOn ship place.stack k → Holds plan p c → ⊥

abbrev pub Allowed : Ship → Cargo → State → Move → Type 0
Allowed ship cargo s (Lift p) = CanLift ship s p
Allowed ship cargo s (Put c p) = CanPut ship cargo s c p
Allowed ship cargo s (OffCover k) = (slice_get s.off k ≡ Some false) × IsBare ship s.plan k
Allowed ship cargo s (OnCover k) = slice_get s.off k ≡ Some true

-- whether the call is the destination of a container
abbrev pub leaves : Cargo → ℕ → ℕ → Bool
leaves cargo call c = is_bound (slice_get cargo.containers c)
  where
    is_bound : Option Container → Bool
    is_bound None = false
    is_bound (Some d) = d.dest == call

-- the quay after a lift: a container leaves the ship at its destination, and goes to the quay at any other call
abbrev pub quay_with : Cargo → ℕ → List Bool → Option (Option ℕ) → List Bool
quay_with cargo call quay (Some (Some c)) = cond (leaves cargo call c) quay (slice_set quay c true)
quay_with cargo call quay (Some None) = quay
quay_with cargo call quay None = quay

-- the state after an allowed move
abbrev pub after : Cargo → ℕ → State → Move → State
after cargo call s (Lift p) = record s { plan = slice_set s.plan p None; quay = quay_with cargo call s.quay (slice_get s.plan p) }
after cargo call s (Put c p) = record s { plan = slice_set s.plan p (Some c); quay = slice_set s.quay c false }
after cargo call s (OffCover k) = record s { off = slice_set s.off k true }
after cargo call s (OnCover k) = record s { off = slice_set s.off k false }

-- each move of a list is allowed where it stands
abbrev pub AllAllowed : Ship → Cargo → ℕ → State → List Move → Type 0
AllAllowed ship cargo call s [] = Unit {0}
AllAllowed ship cargo call s (m ∷ ms) = Allowed ship cargo s m × AllAllowed ship cargo call (after cargo call s m) ms

-- the state after all of them
abbrev pub end_of : Cargo → ℕ → State → List Move → State
end_of cargo call s [] = s
end_of cargo call s (m ∷ ms) = end_of cargo call (after cargo call s m) ms

-- a lift costs the price of its call where the container doesn't leave there, and else nothing
abbrev pub lift_cost : Cargo → ℕ → Option ℕ → ℕ
lift_cost cargo call None = 0
lift_cost cargo call (Some c) = cond (leaves cargo call c) 0 (price cargo call)

-- only lifts cost
abbrev pub cost_of_move : Cargo → ℕ → State → Move → ℕ
cost_of_move cargo call s (Lift p) = lift_cost cargo call (slice_index_or s.plan p None)
cost_of_move cargo call s (Put c p) = 0
cost_of_move cargo call s (OffCover k) = 0
cost_of_move cargo call s (OnCover k) = 0

-- the cost of a list of moves: the price of the call for each lift of a container at a call other than its destination
abbrev pub cost_of_moves : Cargo → ℕ → State → List Move → ℕ
cost_of_moves cargo call s [] = 0
cost_of_moves cargo call s (m ∷ ms) = cost_of_move cargo call s m + cost_of_moves cargo call (after cargo call s m) ms
