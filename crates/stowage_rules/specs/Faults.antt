-- The faults of a plan against the five rules of a departure, and their order.
use Rattle.std.specs.Prelude.{◌≡◌, ℕ, ◌+◌, ◌<◌, ◌⊎◌, true, List, Some, slice_get, IsTrue}
use Rattle.stow_data.specs.declared.geometry.Half.{Half}
use Rattle.stow_data.specs.declared.geometry.Place.{Place}
use Rattle.stow_data.specs.declared.geometry.Stack.{Stack}
use Rattle.stow_data.specs.declared.geometry.Separation.{Separation as Separated}
use Rattle.stow_data.specs.declared.cargoes.Container.{Container}
use Rattle.stow_data.specs.Ship.{Ship, places, halves}
use Rattle.stow_data.specs.Shipment.{Cargo}
use Rattle.stow_data.specs.Plans.{Plan}
use Rattle.stowage_rules.specs.declared.faults.RuleBroken.{RuleBroken}
use Rattle.stowage_rules.specs.declared.faults.RuleBroken.TheVariants.{Support, TwentyOnForty, NoPlug, StackWeight, Separation}
use Rattle.stowage_rules.specs.Plan.{Holds, Fills, Stands}
use Rattle.stow_data.specs.Near.{near}
use Rattle.stowage_rules.specs.Departure.{half_of, IsTwenty, IsSupported, IsTwentyOnTwenty, IsPlugged, IsWithinLimits, IsSeparated, stack_weight}

-- a half-cell above the lowest tier is filled, and the one directly below it isn't
pub record IsUnsupported (ship : Ship) (plan : Plan) (half : Half) : Type 0 where
  pub container : ℕ
  pub fills : Fills ship plan half container
  pub tier : ℕ
  pub is_above : half.tier ≡ tier + 1
  pub empty_below : (d : ℕ) → Fills ship plan (half_of half.stack tier half.aft) d → ⊥

-- a half-cell is filled by a 20-foot container, and the one directly below it by another
pub record IsTwentyOnForty (ship : Ship) (cargo : Cargo) (plan : Plan) (half : Half) : Type 0 where
  pub container : ℕ
  pub fills : Fills ship plan half container
  pub twenty : IsTwenty cargo container
  pub tier : ℕ
  pub is_above : half.tier ≡ tier + 1
  pub below : ℕ
  pub fills_below : Fills ship plan (half_of half.stack tier half.aft) below
  pub not_twenty : IsTwenty cargo below → ⊥

-- a reefer stands at place p, which has no plug
pub record IsUnplugged (ship : Ship) (cargo : Cargo) (plan : Plan) (p : ℕ) : Type 0 where
  pub number : ℕ
  pub place : Place
  pub container : Container
  pub stands : Stands ship cargo plan p number place container
  pub reefer : IsTrue container.reefer
  pub no_plug : IsTrue place.plug → ⊥

-- the rounded weights in stack s come to so many kilograms, which is above its limit
pub record IsOverweight (ship : Ship) (cargo : Cargo) (plan : Plan) (s kg : ℕ) : Type 0 where
  pub stack : Stack
  pub is_stack : slice_get ship.stacks s ≡ Some stack
  pub weighs : kg ≡ stack_weight ship cargo plan s
  pub above_limit : stack.limit_kg < kg

-- a container of this class stands at place n
pub record HasClassAt (cargo : Cargo) (plan : Plan) (n : ℕ) (class : List ℕ) : Type 0 where
  pub number : ℕ
  pub holds : Holds plan n number
  pub container : Container
  pub is_container : slice_get cargo.containers number ≡ Some container
  pub is_class : container.class ≡ Some class

-- against a separation, a container of its first class stands at place p, near one of its second class at place q
pub record AreTooNear (ship : Ship) (cargo : Cargo) (plan : Plan) (rule : Separated) (p q : ℕ) : Type 0 where
  pub first : Place
  pub is_first : slice_get (places ship) p ≡ Some first
  pub has_a : HasClassAt cargo plan p rule.a
  pub second : Place
  pub is_second : slice_get (places ship) q ≡ Some second
  pub has_b : HasClassAt cargo plan q rule.b
  pub near : near ship rule.level first second ≡ true

-- against separation e
pub record IsUnseparated (ship : Ship) (cargo : Cargo) (plan : Plan) (e p q : ℕ) : Type 0 where
  pub rule : Separated
  pub is_rule : slice_get ship.separations e ≡ Some rule
  pub too_near : AreTooNear ship cargo plan rule p q

-- what holds of the half-cell of a number
pub record OfHalf (ship : Ship) (P : Half → Type 0) (h : ℕ) : Type 0 where
  pub half : Half
  pub is_half : slice_get (halves ship) h ≡ Some half
  pub holds : P half

-- the plan has this fault
abbrev pub IsFault : Ship → Cargo → Plan → RuleBroken → Type 0
IsFault ship cargo plan (Support h) = OfHalf ship (IsUnsupported ship plan) h
IsFault ship cargo plan (TwentyOnForty h) = OfHalf ship (IsTwentyOnForty ship cargo plan) h
IsFault ship cargo plan (NoPlug p) = IsUnplugged ship cargo plan p
IsFault ship cargo plan (StackWeight s kg) = IsOverweight ship cargo plan s kg
IsFault ship cargo plan (Separation e p q) = IsUnseparated ship cargo plan e p q

-- the five rules hold
pub record MeetsRules (ship : Ship) (cargo : Cargo) (plan : Plan) : Type 0 where
  pub supported : IsSupported ship plan
  pub twenty : IsTwentyOnTwenty ship cargo plan
  pub plugged : IsPlugged ship cargo plan
  pub within : IsWithinLimits ship cargo plan
  pub separated : IsSeparated ship cargo plan

-- the number of a fault's rule, and its fields
abbrev pub rank : RuleBroken → ℕ × ℕ × ℕ × ℕ
rank (Support h) = (1, h, 0, 0)
rank (TwentyOnForty h) = (2, h, 0, 0)
rank (NoPlug p) = (3, p, 0, 0)
rank (StackWeight s kg) = (4, s, kg, 0)
rank (Separation e p q) = (5, e, p, q)

-- by the first number that differs
abbrev pub IsLess : ℕ × ℕ × ℕ × ℕ → ℕ × ℕ × ℕ × ℕ → Type 0
IsLess (a, b, c, d) (x, y, z, w) = (a < x) ⊎ ((a ≡ x) × ((b < y) ⊎ ((b ≡ y) × ((c < z) ⊎ ((c ≡ z) × (d < w))))))

-- the plan has this fault, and none before it by the number of the rule, then by its fields
pub record IsFirstFault (ship : Ship) (cargo : Cargo) (plan : Plan) (fault : RuleBroken) : Type 0 where
  pub is_fault : IsFault ship cargo plan fault
  pub none_before : (other : RuleBroken) → IsLess (rank other) (rank fault) → IsFault ship cargo plan other → ⊥

-- the least number of which something holds
pub record IsLeast (P : ℕ → Type 0) (n : ℕ) : Type 0 where
  pub holds : P n
  pub none_below : (k : ℕ) → k < n → P k → ⊥

-- the least pair of places that are too near
pub record AreFirstNear (ship : Ship) (cargo : Cargo) (plan : Plan) (rule : Separated) (pair : ℕ × ℕ) : Type 0 where
  pub too_near : AreTooNear ship cargo plan rule pair.0 pair.1
  pub least_first : (p q : ℕ) → p < pair.0 → AreTooNear ship cargo plan rule p q → ⊥
  pub least_second : (q : ℕ) → q < pair.1 → AreTooNear ship cargo plan rule pair.0 q → ⊥

-- the first stack that is too heavy, with its weight
pub record IsFirstHeavy (ship : Ship) (cargo : Cargo) (plan : Plan) (found : ℕ × ℕ) : Type 0 where
  pub heavy : IsOverweight ship cargo plan found.0 found.1
  pub none_before : (s kg : ℕ) → s < found.0 → IsOverweight ship cargo plan s kg → ⊥

-- the first separation that isn't kept, with the least pair of its places
pub record IsFirstUnseparated (ship : Ship) (cargo : Cargo) (plan : Plan) (found : ℕ × ℕ × ℕ) : Type 0 where
  pub rule : Separated
  pub is_rule : slice_get ship.separations (found.0) ≡ Some rule
  pub pair : AreFirstNear ship cargo plan rule (found.1, found.2)
  pub kept_before : (e p q : ℕ) → e < found.0 → IsUnseparated ship cargo plan e p q → ⊥
