-- The half-cells of a place's columns in a tier: which of them is the first.
use Rattle.std.specs.Prelude.{◌≡◌, ℕ, ◌+◌, ◌-◌, ◌<◌, ◌≤◌, Bool, true, false, Option, Some, None, MatchOption, slice_get}
use Rattle.std.proofs.Common.{arith, refl, sym, ◌∙◌, ap, subst}
use Rattle.std.proofs.lemmas.Option.{same_Some}
use Rattle.stow_data.specs.declared.geometry.Half.{Half}
use Rattle.stow_data.specs.declared.geometry.Length.{Length}
use Rattle.stow_data.specs.declared.geometry.Place.{Place}
use Rattle.stow_data.specs.Ship.{Ship, places, halves, TakesSide}
use Rattle.stow_data.specs.Shipment.{Cargo}
use Rattle.stow_data.specs.Plans.{Plan}
use Rattle.stow_data.proofs.CellLemmas.{has_side}
use Rattle.stow_data.proofs.InOrder.{half_listed, half_once}
use Rattle.stow_data.proofs.Listed.{place_from}
use Rattle.stow_data.proofs.Made.{place_bounded, stack_in}
use Rattle.stow_data.specs.Profile.{IsShip}
use Rattle.stowage_rules.proofs.Items.{slice_get_in}
use Rattle.stowage_rules.specs.Plan.{Fills}
use Rattle.stowage_rules.specs.Departure.{half_of}
use Rattle.stowage_rules.specs.Faults.{OfHalf, IsLeast}
use Rattle.voyage_meaning.specs.Refusals.{Finds, IsBearing, IsInTier, IsFilledIn, IsWeakBelow}
use Rattle.voyage_meaning.proofs.HalvesRise.{rising}

-- a half-cell of the tier is the one of its side
pub in_tier : (place : Place) (tier : ℕ) (half : Half) → IsInTier place tier half → half ≡ half_of place.stack tier half.aft
in_tier place tier half x = ap (λ (s : ℕ). half_of s half.tier half.aft) x.same_stack ∙ ap (λ (t : ℕ). half_of place.stack t half.aft) x.same_tier

module _ (ship : Ship) (P : Half → Type 0) (place : Place) (tier : ℕ) (into : (x : Half) → P x → IsInTier place tier x) where
  -- on its side
  at_side : (half : Half) (aft : Bool) → half.aft ≡ aft → P half → half ≡ half_of place.stack tier aft
  at_side half aft e x = in_tier place tier half (into half x) ∙ ap (half_of place.stack tier) e

  -- the fore one, where it has what is asked, is the first
  pub least_fore : (h : ℕ) → slice_get (halves ship) h ≡ Some (half_of place.stack tier false) → P (half_of place.stack tier false) → IsLeast (OfHalf ship P) h
  least_fore h is x = record { holds = record { half = half_of place.stack tier false; is_half = is; holds = x }; none_below = below }
    where
      below : (k : ℕ) → k < h → OfHalf ship P k → ⊥
      below k l y =
          let r = rising ship k h y.half (half_of place.stack tier false) l y.is_half is in
          let low = r.1 ((into y.half y.holds).same_stack) in
          let same = (into y.half y.holds).same_tier in
          omega (arith, low, same)

  -- the aft one, where the fore one hasn't
  pub least_aft : (h : ℕ) → (P (half_of place.stack tier false) → ⊥) → slice_get (halves ship) h ≡ Some (half_of place.stack tier true) → P (half_of place.stack tier true) → IsLeast (OfHalf ship P) h
  least_aft h none is x = record { holds = record { half = half_of place.stack tier true; is_half = is; holds = x }; none_below = λ k l y. below k l y y.half.aft refl }
    where
      below : (k : ℕ) → k < h → (y : OfHalf ship P k) → (aft : Bool) → y.half.aft ≡ aft → ⊥
      below k l y true e =
          let same : k ≡ h = half_once ship k h (half_of place.stack tier true) (y.is_half ∙ ap (λ (z : Half). Some z) (at_side y.half true e y.holds)) is in
          omega arith
      below k l y false e = none (subst P (at_side y.half false e y.holds) y.holds)

  -- none, where neither has
  pub none_sides : (P (half_of place.stack tier false) → ⊥) → (P (half_of place.stack tier true) → ⊥) → (n : ℕ) → OfHalf ship P n → ⊥
  none_sides fore aft n y = by_side y.half.aft refl
    where
      by_side : (side : Bool) → y.half.aft ≡ side → ⊥
      by_side false e = fore (subst P (at_side y.half false e y.holds) y.holds)
      by_side true e = aft (subst P (at_side y.half true e y.holds) y.holds)

  -- the answer at the aft one decides
  pub decided : (o : Option ℕ) → (P (half_of place.stack tier false) → ⊥) → MatchOption o (P (half_of place.stack tier true) → ⊥) (λ h. (slice_get (halves ship) h ≡ Some (half_of place.stack tier true)) × P (half_of place.stack tier true)) → Finds (OfHalf ship P) o
  decided None fore aft = none_sides fore aft
  decided (Some h) fore aft = least_aft h fore aft.0 aft.1

-- the half-cells that are asked about are in the tier
pub filled_in : (ship : Ship) (plan : Plan) (place : Place) (tier : ℕ) (x : Half) → IsFilledIn ship plan place tier x → IsInTier place tier x
filled_in ship plan place tier x y = y.is_in

pub weak_in : (ship : Ship) (cargo : Cargo) (plan : Plan) (place : Place) (long : Length) (x : Half) → IsWeakBelow ship cargo plan place long x → IsInTier place (place.tier - 1) x
weak_in ship cargo plan place long x y = subst (λ (t : ℕ). IsInTier place t x) (let e = y.is_above in let low : y.tier ≡ place.tier - 1 = omega (arith, e) in low) y.is_in

-- a half-cell directly below a place has a number
pub below_listed : (ship : Ship) (p : ℕ) (place : Place) (tier : ℕ) (side : Bool) → slice_get (places ship) p ≡ Some place → place.tier ≡ tier + 1 → TakesSide place.span side → (k : ℕ) × (slice_get (halves ship) k ≡ Some (half_of place.stack tier side))
below_listed ship p place tier side is up takes =
    let of = place_from ship p place is in
    half_listed ship place.stack tier side of.stack_at of.is_stack (omega (arith, of.low)) (has_side of.stack_at.lengths place.span side of.span takes)

-- where no half-cell is in two filled places, two containers in one are one
pub one_held : (ship : Ship) (plan : Plan) (h : Half) (c d : ℕ) → ((g : Half) (a b : ℕ) (x : Fills ship plan g a) (y : Fills ship plan g b) → x.number ≡ y.number) → Fills ship plan h c → Fills ship plan h d → c ≡ d
one_held ship plan h c d apart x y = same_Some c d (same_Some (Some c) (Some d) (sym x.holds ∙ (ap (slice_get plan) (apart h c d x y) ∙ y.holds)))

-- what a side of a place's columns says where it is filled
pub filled_here : (ship : Ship) (plan : Plan) (place : Place) (tier h : ℕ) (aft : Bool) (half : Half) (c : ℕ) → half ≡ half_of place.stack tier aft → TakesSide place.span aft → slice_get (halves ship) h ≡ Some half → Fills ship plan half c → (slice_get (halves ship) h ≡ Some (half_of place.stack tier aft)) × IsFilledIn ship plan place tier (half_of place.stack tier aft)
filled_here ship plan place tier h aft half c e takes is fills = (
  is ∙ ap (λ (z : Half). Some z) e,
  record { is_in = record { same_stack = refl; same_tier = refl; side = takes }; taken = (c, subst (λ (z : Half). Fills ship plan z c) e fills) },
)

-- and one below it where it doesn't bear
pub below_number : (ship : Ship) (p : ℕ) (place : Place) (aft : Bool) (half : Half) → slice_get (places ship) p ≡ Some place → 1 ≤ place.tier → half ≡ half_of place.stack (place.tier - 1) aft → TakesSide place.span aft → (k : ℕ) × (slice_get (halves ship) k ≡ Some half)
below_number ship p place aft half is high e takes =
    let r = below_listed ship p place (place.tier - 1) aft is (omega arith) takes in (r.0, r.1 ∙ ap (λ (z : Half). Some z) (sym e))

pub weak_here : (ship : Ship) (cargo : Cargo) (plan : Plan) (place : Place) (long : Length) (h : ℕ) (aft : Bool) (half : Half) → 1 ≤ place.tier → half ≡ half_of place.stack (place.tier - 1) aft → TakesSide place.span aft → slice_get (halves ship) h ≡ Some half → (IsBearing ship cargo plan long half → ⊥) → (slice_get (halves ship) h ≡ Some (half_of place.stack (place.tier - 1) aft)) × IsWeakBelow ship cargo plan place long (half_of place.stack (place.tier - 1) aft)
weak_here ship cargo plan place long h aft half high e takes is fails = (
  is ∙ ap (λ (z : Half). Some z) e,
  record { tier = place.tier - 1; is_above = omega arith; is_in = record { same_stack = refl; same_tier = refl; side = takes }; fails = λ x. fails (subst (λ (z : Half). IsBearing ship cargo plan long z) (sym e) x) },
)

-- no place is above the 99th tier
pub tier_low : (ship : Ship) (p : ℕ) (place : Place) → IsShip ship → slice_get (places ship) p ≡ Some place → place.tier ≤ 98
tier_low ship p place rules is =
    let stack = slice_get_in ship.stacks place.stack (stack_in ship p place is) in
    let bound = place_bounded ship p place stack.0 rules is stack.1 in
    omega (arith, bound.tier_to)
