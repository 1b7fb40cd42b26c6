-- How a set of filled places spreads over a plan: to what stands above, and to what stands on a hatch cover that must open.
use Rattle.std.specs.Prelude.{◌≡◌, ◌⊎◌, ℕ, ◌+◌, ◌<◌, Bool, true, false, List, Some, slice_get, slice_index_or}
use Rattle.stow_data.specs.declared.geometry.Place.{Place}
use Rattle.stow_data.specs.declared.geometry.Span.{Span}
use Rattle.stow_data.specs.Ship.{Ship, places, TakesSide, LiesUnder, StandsOn}
use Rattle.stow_data.specs.Plans.{Plan}
use Rattle.stowage_rules.specs.Plan.{Holds}
use Rattle.plan_lifts.specs.Least.{IsOver, IsOnCoverOf}

-- a list of truth values as a set: whether it has number n
abbrev pub has : List Bool → ℕ → Bool
has flags n = slice_index_or flags n false

-- with each place of the set what stands directly above it is of the set
abbrev pub IsUpward : Ship → Plan → (ℕ → Bool) → Type 0
IsUpward ship plan set = (p q c : ℕ) → Holds plan p c → IsOver ship p q → set q ≡ true → set p ≡ true

-- with each place of the set that lies under a cover what stands on the cover is of the set
abbrev pub IsUncovered : Ship → Plan → (ℕ → Bool) → Type 0
IsUncovered ship plan set = (p q c : ℕ) → Holds plan p c → IsOnCoverOf ship p q → set q ≡ true → set p ≡ true

-- a set that has all of another one
abbrev pub HasAll : (ℕ → Bool) → (ℕ → Bool) → Type 0
HasAll part set = (p : ℕ) → part p ≡ true → set p ≡ true

-- a set that holds the seeds and spreads no further
pub record IsSpread (ship : Ship) (plan : Plan) (seeds set : ℕ → Bool) : Type 0 where
  pub seeded : HasAll seeds set
  pub over : IsUpward ship plan set
  pub on_cover : IsUncovered ship plan set

-- the least such set: each such set has all of it
pub record IsLeastSpread (ship : Ship) (plan : Plan) (seeds set : ℕ → Bool) : Type 0 where
  pub spread : IsSpread ship plan seeds set
  pub least : (other : ℕ → Bool) → IsSpread ship plan seeds other → HasAll set other

-- the least set that holds the seeds and spreads no further upward
pub record IsLeastUpward (ship : Ship) (plan : Plan) (seeds set : ℕ → Bool) : Type 0 where
  pub seeded : HasAll seeds set
  pub over : IsUpward ship plan set
  pub least : (other : ℕ → Bool) → HasAll seeds other → IsUpward ship plan other → HasAll set other

-- place q of the set lies under cover k, which must open
pub record IsOpenedBy (ship : Ship) (set : ℕ → Bool) (q k : ℕ) : Type 0 where
  pub place : Place
  pub is_place : slice_get (places ship) q ≡ Some place
  pub under : LiesUnder ship place.stack k
  pub in_set : set q ≡ true

-- cover k must open for a place of the set
abbrev pub IsOpened : Ship → (ℕ → Bool) → ℕ → Type 0
IsOpened ship set k = (q : ℕ) × IsOpenedBy ship set q k

-- place p is on a cover of those that open
pub record OpensUnder (ship : Ship) (opened : ℕ → Bool) (p : ℕ) : Type 0 where
  pub place : Place
  pub is_place : slice_get (places ship) p ≡ Some place
  pub cover : ℕ
  pub on : StandsOn ship place.stack cover
  pub opens : opened cover ≡ true

-- what stands at place p stands on a cover of those that open
pub record IsOnOpened (ship : Ship) (plan : Plan) (opened : ℕ → Bool) (p : ℕ) : Type 0 where
  pub container : ℕ
  pub holds : Holds plan p container
  pub under : OpensUnder ship opened p

-- place p is directly above place q of the set
pub record IsAbove (ship : Ship) (set : ℕ → Bool) (p q : ℕ) : Type 0 where
  pub over : IsOver ship p q
  pub in_set : set q ≡ true

-- something stands at place p directly above a place of the set
pub record IsAboveOne (ship : Ship) (plan : Plan) (set : ℕ → Bool) (p : ℕ) : Type 0 where
  pub container : ℕ
  pub holds : Holds plan p container
  pub below : ℕ
  pub above : IsAbove ship set p below

-- two spans have a side in common
pub record SharesSide (a b : Span) : Type 0 where
  pub side : Bool
  pub first : TakesSide a side
  pub second : TakesSide b side

-- of two places, the lower by number is in another stack or more than a tier below
abbrev pub IsFar : Place → Place → Type 0
IsFar upper lower = (lower.stack ≡ upper.stack → ⊥) ⊎ (lower.tier + 1 < upper.tier)

-- place p is filled and of the set
pub record IsHeldIn (plan : Plan) (set : ℕ → Bool) (p : ℕ) : Type 0 where
  pub container : ℕ
  pub holds : Holds plan p container
  pub in_set : set p ≡ true
