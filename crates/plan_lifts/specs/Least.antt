-- What must be lifted at a call that leads from one plan to the next.
use Rattle.std.specs.Prelude.{◌≡◌, ℕ, ◌+◌, suc, Bool, true, false, List, [], ◌∷◌, Option, Some, slice_get, cond}
use Rattle.stow_data.specs.declared.geometry.Place.{Place}
use Rattle.stow_data.specs.Ship.{Ship, places, TakesSide, LiesUnder, StandsOn}
use Rattle.stow_data.specs.Shipment.{Cargo}
use Rattle.stow_data.specs.Plans.{Plan}
use Rattle.stowage_rules.specs.Plan.{Holds}
use Rattle.voyage_meaning.specs.Moves.{leaves, lift_cost}

-- place p has a half-cell directly above one of place q
pub record IsOver (ship : Ship) (p q : ℕ) : Type 0 where
  pub upper : Place
  pub is_upper : slice_get (places ship) p ≡ Some upper
  pub lower : Place
  pub is_lower : slice_get (places ship) q ≡ Some lower
  pub side : Bool
  pub upper_has : TakesSide upper.span side
  pub lower_has : TakesSide lower.span side
  pub same_stack : upper.stack ≡ lower.stack
  pub next_tier : upper.tier ≡ lower.tier + 1

-- place p stands on a cover under which place q lies
pub record IsOnCoverOf (ship : Ship) (p q : ℕ) : Type 0 where
  pub upper : Place
  pub is_upper : slice_get (places ship) p ≡ Some upper
  pub lower : Place
  pub is_lower : slice_get (places ship) q ≡ Some lower
  pub cover : ℕ
  pub on : StandsOn ship upper.stack cover
  pub under : LiesUnder ship lower.stack cover

-- a set of places is closed: with each place whose container doesn't stay, with what stands directly above a place of it, and with what stands on a cover under which a place is of it or changes
pub record IsClosed (ship : Ship) (before after : Plan) (lifted : ℕ → Bool) : Type 0 where
  pub changed : (p c : ℕ) → Holds before p c → (Holds after p c → ⊥) → lifted p ≡ true
  pub over : (p q c : ℕ) → Holds before p c → IsOver ship p q → lifted q ≡ true → lifted p ≡ true
  pub on_cover : (p q c : ℕ) → Holds before p c → IsOnCoverOf ship p q → lifted q ≡ true → lifted p ≡ true
  pub on_opened : (p q c : ℕ) → Holds before p c → IsOnCoverOf ship p q → (slice_get before q ≡ slice_get after q → ⊥) → lifted p ≡ true

-- each place of a set is filled
abbrev pub IsFilled : Plan → (ℕ → Bool) → Type 0
IsFilled plan lifted = (p : ℕ) → lifted p ≡ true → (c : ℕ) × Holds plan p c

-- the least closed set: it is closed, and each closed set has all of it
pub record IsLeastClosed (ship : Ship) (before after : Plan) (lifted : ℕ → Bool) : Type 0 where
  pub closed : IsClosed ship before after lifted
  pub least : (other : ℕ → Bool) → IsClosed ship before after other → (p : ℕ) → lifted p ≡ true → other p ≡ true

-- what stands at the places of a set, weighed and added up
abbrev pub counted : (Option ℕ → ℕ) → (ℕ → Bool) → Plan → ℕ
counted w f [] = 0
counted w f (o ∷ os) = cond (f 0) (w o) 0 + counted w (λ p. f (suc p)) os

-- closed sets of filled places, one for each call
abbrev pub AreClosed : Ship → Plan → List Plan → List (ℕ → Bool) → Type 0
AreClosed ship before [] [] = Unit {0}
AreClosed ship before (after ∷ departures) (f ∷ fs) = IsClosed ship before after f × IsFilled before f × AreClosed ship after departures fs
AreClosed ship before [] (f ∷ fs) = ⊥
AreClosed ship before (after ∷ departures) [] = ⊥

-- least closed sets, one for each call
abbrev pub AreLeast : Ship → Plan → List Plan → List (ℕ → Bool) → Type 0
AreLeast ship before [] [] = Unit {0}
AreLeast ship before (after ∷ departures) (f ∷ fs) = IsLeastClosed ship before after f × AreLeast ship after departures fs
AreLeast ship before [] (f ∷ fs) = ⊥
AreLeast ship before (after ∷ departures) [] = ⊥

-- what it costs to lift what stands at the places of the sets, over all calls
abbrev pub cost_of_lifts : Cargo → ℕ → Plan → List Plan → List (ℕ → Bool) → ℕ
cost_of_lifts cargo call before (after ∷ departures) (f ∷ fs) = counted (lift_cost cargo call) f before + cost_of_lifts cargo (suc call) after departures fs
cost_of_lifts cargo call before [] fs = 0
cost_of_lifts cargo call before (after ∷ departures) [] = 0

-- a stack under a cover stands on none
abbrev pub IsDivided : Ship → Type 0
IsDivided ship = (s j k : ℕ) → LiesUnder ship s j → StandsOn ship s k → ⊥

-- a call that rehandles nothing: what is bound for a later call stays where it stands, nothing is discharged below it, and nothing changes under a cover on which it stands
pub record RehandlesNone (ship : Ship) (cargo : Cargo) (call : ℕ) (before after : Plan) : Type 0 where
  pub stays : (p c : ℕ) → Holds before p c → leaves cargo call c ≡ false → Holds after p c
  pub below : (p q c d : ℕ) → Holds before p c → Holds before q d → IsOver ship p q → leaves cargo call d ≡ true → leaves cargo call c ≡ true
  pub under_cover : (p q c : ℕ) → Holds before p c → IsOnCoverOf ship p q → (slice_get before q ≡ slice_get after q → ⊥) → leaves cargo call c ≡ true

-- such calls alone, from one call on
abbrev pub RehandleNone : Ship → Cargo → ℕ → Plan → List Plan → Type 0
RehandleNone ship cargo call before [] = Unit {0}
RehandleNone ship cargo call before (after ∷ departures) = RehandlesNone ship cargo call before after × RehandleNone ship cargo (suc call) after departures
