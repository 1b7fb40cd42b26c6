-- What fills a half-cell, by numbers; and that something does or nothing.
use Rattle.std.specs.Prelude.{◌≡◌, ◌↔◌, IsTrue, not, ℕ, ◌+◌, ◌-◌, ◌<◌, ◌≤◌, suc, zero, true, false, Bool, Option, Some, None, slice_get, length}
use Rattle.std.proofs.Common.{refl, sym, ◌∙◌, ap, arith, subst, ◌⊎◌, inl, inr, ⊎_elim}
use Rattle.std.proofs.lemmas.Bool.{cases_order, both_ways, not-true, not_from_false, false_from_ne_true}
use Rattle.std.proofs.lemmas.Option.{same_Some, none-some}
use Rattle.stow_data.specs.declared.geometry.Half.{Half}
use Rattle.stow_data.specs.declared.geometry.Place.{Place}
use Rattle.stow_data.specs.declared.geometry.Span.{Span}
use Rattle.stow_data.specs.declared.geometry.Span.TheVariants.{Fore, Aft, Both}
use Rattle.stow_data.specs.Ship.{Ship, places, halves, HasHalf, TakesSide}
use Rattle.stow_data.specs.Shipment.{Cargo}
use Rattle.stow_data.specs.Plans.{Plan}
use Rattle.stow_data.proofs.Listed.{place_from}
use Rattle.stow_data.proofs.CellLemmas.{has_side}
use Rattle.stow_data.proofs.InOrder.{half_listed}
use Rattle.stowage_rules.specs.Plan.{Fills, IsWellFormed}
use Rattle.stowage_rules.specs.Departure.{half_of, IsTwenty}
use Rattle.stowage_rules.specs.Places.{FillsFrom, IsTaken}
use Rattle.stowage_rules.specs.Faults.{IsUnsupported, IsTwentyOnForty}
use Rattle.stowage_rules.specs.Tiers.{IsBefore, IsFirstOf}
use Rattle.stowage_rules.proofs.Rising.{before_too}
use Rattle.stowage_rules.proofs.Fillers.{from, inside, fills}

-- before the first place of its tier nothing fills a half-cell
pub none_earlier : (ship : Ship) (plan : Plan) (h : Half) (start : ℕ) → IsFirstOf ship h.stack h.tier start → (n : ℕ) → n < start → (c : ℕ) → FillsFrom ship plan n h c → ⊥
none_earlier ship plan h start first n l c x = ⊎_elim
    (λ (a : x.place.stack < h.stack). let same : h.stack ≡ x.place.stack = x.has_half.same_stack in omega arith)
    (λ (b : (x.place.stack ≡ h.stack) × (x.place.tier < h.tier)). let same : h.tier ≡ x.place.tier = x.has_half.same_tier in omega (arith, b.1))
    ((first n x.place x.is_place).0 l)

-- nor behind the last: where a place from the first on is of another tier, so are all that follow
pub none_later : (ship : Ship) (plan : Plan) (h : Half) (start p : ℕ) (here : Place) → IsFirstOf ship h.stack h.tier start → start ≤ p → slice_get (places ship) p ≡ Some here → ((here.stack ≡ h.stack) × (here.tier ≡ h.tier) → ⊥) → ((n : ℕ) → n < p → (c : ℕ) → FillsFrom ship plan n h c → ⊥) → (c : ℕ) → Fills ship plan h c → ⊥
none_later ship plan h start p here first l is other none c x = ⊎_elim
    (λ (e : x.number ≡ p). other (let same : x.place ≡ here = same_Some x.place here (sym x.is_place ∙ (ap (slice_get (places ship)) e ∙ is)) in (sym (x.has_half.same_stack ∙ ap (λ (z : Place). z.stack) same), sym (x.has_half.same_tier ∙ ap (λ (z : Place). z.tier) same))))
    (λ (o : (x.number < p) ⊎ (p < x.number)). ⊎_elim
    (λ (a : x.number < p). none x.number a c (from x))
    (λ (b : p < x.number).
    let at : IsBefore x.place h.stack (h.tier + 1) = inr (sym x.has_half.same_stack, let e : h.tier ≡ x.place.tier = x.has_half.same_tier in omega arith) in ⊎_elim
    (λ (y : here.stack < h.stack). absurd (let back : p < start = (first p here is).1 (inl y) in omega arith))
    (λ (y : (here.stack ≡ h.stack) × (here.tier < h.tier + 1)). ⊎_elim
    (λ (e : here.tier ≡ h.tier). other (y.0, e))
    (λ (q : (here.tier < h.tier) ⊎ (h.tier < here.tier)). ⊎_elim
    (λ (z : here.tier < h.tier). absurd (let back : p < start = (first p here is).1 (inr (y.0, z)) in omega arith))
    (λ (z : h.tier < here.tier). absurd (let up : here.tier < h.tier + 1 = y.1 in omega arith)) q)
    (cases_order here.tier h.tier))
    (before_too ship p x.number h.stack (h.tier + 1) here x.place b is x.is_place at)) o)
    (cases_order x.number p)

-- two containers in one half-cell are one
pub one_filler : (ship : Ship) (cargo : Cargo) (plan : Plan) (h : Half) (c d : ℕ) → IsWellFormed ship cargo plan → Fills ship plan h c → Fills ship plan h d → c ≡ d
one_filler ship cargo plan h c d formed x y = same_Some c d (same_Some (Some c) (Some d) (sym x.holds ∙ (ap (slice_get plan) (formed.apart h c d x y) ∙ y.holds)))

-- a half-cell of a place has a number
pub half_number : (ship : Ship) (p : ℕ) (place : Place) (h : Half) → slice_get (places ship) p ≡ Some place → HasHalf place h → (k : ℕ) × (slice_get (halves ship) k ≡ Some h)
half_number ship p place h is has =
    let of = place_from ship p place is in
    let listed = half_listed ship place.stack place.tier h.aft of.stack_at of.is_stack of.low (has_side of.stack_at.lengths place.span h.aft of.span has.side) in
    let same : record { stack = place.stack; tier = place.tier; aft = h.aft } ≡ h = ap (λ (s : ℕ). record { stack = s; tier = place.tier; aft = h.aft }) (sym has.same_stack) ∙ ap (λ (t : ℕ). record { stack = h.stack; tier = t; aft = h.aft }) (sym has.same_tier) in
    (listed.0, listed.1 ∙ ap (λ (z : Half). Some z) same)

side_cases : (s : Span) (side : Bool) → TakesSide s side ⊎ (TakesSide s side → ⊥)
side_cases Fore true = inr (λ e. cc)
side_cases Fore false = inl refl
side_cases Aft true = inl refl
side_cases Aft false = inr (λ e. cc)
side_cases Both side = inl tt

has_cases : (p : Place) (h : Half) → HasHalf p h ⊎ (HasHalf p h → ⊥)
has_cases p h = ⊎_elim
    (λ (e : h.stack ≡ p.stack). ⊎_elim
    (λ (f : h.tier ≡ p.tier). ⊎_elim
    (λ (s : TakesSide p.span h.aft). inl (record { same_stack = e; same_tier = f; side = s }))
    (λ (s : TakesSide p.span h.aft → ⊥). inr (λ x. s x.side))
    (side_cases p.span h.aft))
    (λ (o : (h.tier < p.tier) ⊎ (p.tier < h.tier)). inr (λ x. let same : h.tier ≡ p.tier = x.same_tier in ⊎_elim (λ (l : h.tier < p.tier). omega arith) (λ (l : p.tier < h.tier). omega arith) o))
    (cases_order h.tier p.tier))
    (λ (o : (h.stack < p.stack) ⊎ (p.stack < h.stack)). inr (λ x. let same : h.stack ≡ p.stack = x.same_stack in ⊎_elim (λ (l : h.stack < p.stack). omega arith) (λ (l : p.stack < h.stack). omega arith) o))
    (cases_order h.stack p.stack)

-- what stands at a place fills the half-cell, or nothing there does
from_cases : (ship : Ship) (plan : Plan) (h : Half) (n : ℕ) (o : Option Place) (q : Option (Option ℕ)) → slice_get (places ship) n ≡ o → slice_get plan n ≡ q → ((c : ℕ) × FillsFrom ship plan n h c) ⊎ ((c : ℕ) → FillsFrom ship plan n h c → ⊥)
from_cases ship plan h n None q e f = inr (λ c x. none-some x.place (sym e ∙ x.is_place))
from_cases ship plan h n (Some place) None e f = inr (λ c x. none-some (Some c) (sym f ∙ x.holds))
from_cases ship plan h n (Some place) (Some None) e f = inr (λ c x. none-some c (same_Some None (Some c) (sym f ∙ x.holds)))
from_cases ship plan h n (Some place) (Some (Some c)) e f = ⊎_elim
    (λ (has : HasHalf place h). inl (c, record { place = place; is_place = e; has_half = has; holds = f }))
    (λ (no : HasHalf place h → ⊥). inr (λ d x. no (subst (λ (z : Place). HasHalf z h) (same_Some x.place place (sym x.is_place ∙ e)) x.has_half)))
    (has_cases place h)

below_cases : (ship : Ship) (plan : Plan) (h : Half) (m : ℕ) → ((c : ℕ) × Fills ship plan h c) ⊎ ((n : ℕ) → n < m → (c : ℕ) → FillsFrom ship plan n h c → ⊥)
below_cases ship plan h zero = inr (λ n l c x. absurd (omega arith))
below_cases ship plan h (suc m) = ⊎_elim
    (λ (a : (c : ℕ) × Fills ship plan h c). inl a)
    (λ (none : (n : ℕ) → n < m → (c : ℕ) → FillsFrom ship plan n h c → ⊥). ⊎_elim
    (λ (a : (c : ℕ) × FillsFrom ship plan m h c). inl (a.0, fills a.1))
    (λ (b : (c : ℕ) → FillsFrom ship plan m h c → ⊥). inr (λ n l c x. ⊎_elim
    (λ (e : n ≡ m). b c (subst (λ (z : ℕ). FillsFrom ship plan z h c) e x))
    (λ (o : (n < m) ⊎ (m < n)). none n (⊎_elim (λ (y : n < m). y) (λ (y : m < n). omega arith) o) c x)
    (cases_order n m)))
    (from_cases ship plan h m (slice_get (places ship) m) (slice_get plan m) refl refl))
    (below_cases ship plan h m)

-- something fills the half-cell, or nothing
pub filled_or_not : (ship : Ship) (plan : Plan) (h : Half) → ((c : ℕ) × Fills ship plan h c) ⊎ ((c : ℕ) → Fills ship plan h c → ⊥)
filled_or_not ship plan h = ⊎_elim
    (λ (a : (c : ℕ) × Fills ship plan h c). inl a)
    (λ (none : (n : ℕ) → n < length (places ship) → (c : ℕ) → FillsFrom ship plan n h c → ⊥). inr (λ c x. none x.number (inside x) c (from x)))
    (below_cases ship plan h (length (places ship)))

-- the half-cell below, as its number of tier says it
lower_is : (half lower : Half) (tier : ℕ) → half.tier ≡ tier + 1 → lower ≡ half_of half.stack (half.tier - 1) half.aft → lower ≡ half_of half.stack tier half.aft
lower_is half lower tier up e = e ∙ ap (λ (t : ℕ). half_of half.stack t half.aft) (let low : half.tier - 1 ≡ tier = omega arith in low)

pub unsupported_where : (ship : Ship) (plan : Plan) (half lower : Half) (c : ℕ) (rests : Bool) → 0 < half.tier → lower ≡ half_of half.stack (half.tier - 1) half.aft → Fills ship plan half c → IsTrue rests ↔ IsTaken ship plan lower → IsTrue (not rests) ↔ IsUnsupported ship plan half
unsupported_where ship plan half lower c rests high e filled said = (
  λ h. record {
    container = c;
    fills = filled;
    tier = half.tier - 1;
    is_above = omega arith;
    empty_below = λ d x. both_ways rests (not-true rests h) (said.1 (d, subst (λ (z : Half). Fills ship plan z d) (sym e) x));
  },
  λ x. not_from_false rests (false_from_ne_true rests (λ t. let taken = said.0 t in x.empty_below taken.0 (subst (λ (z : Half). Fills ship plan z taken.0) (lower_is half lower x.tier x.is_above e) taken.1))),
)

pub twenty_where : (ship : Ship) (cargo : Cargo) (plan : Plan) (half lower : Half) (c d : ℕ) → IsWellFormed ship cargo plan → 0 < half.tier → lower ≡ half_of half.stack (half.tier - 1) half.aft → Fills ship plan half c → Fills ship plan lower d → IsTwenty cargo c → (IsTwenty cargo d → ⊥) → IsTwentyOnForty ship cargo plan half
twenty_where ship cargo plan half lower c d formed high e up down twenty other = record {
  container = c;
  fills = up;
  twenty = twenty;
  tier = half.tier - 1;
  is_above = omega arith;
  below = d;
  fills_below = subst (λ (z : Half). Fills ship plan z d) e down;
  not_twenty = other;
}

-- what a fault of this rule says of the two that fill the half-cells
pub twenty_says : (ship : Ship) (cargo : Cargo) (plan : Plan) (half lower : Half) (c d : ℕ) → IsWellFormed ship cargo plan → lower ≡ half_of half.stack (half.tier - 1) half.aft → Fills ship plan half c → Fills ship plan lower d → IsTwentyOnForty ship cargo plan half → IsTwenty cargo c × (IsTwenty cargo d → ⊥)
twenty_says ship cargo plan half lower c d formed e up down x = (
  subst (λ (z : ℕ). IsTwenty cargo z) (one_filler ship cargo plan half x.container c formed x.fills up) x.twenty,
  λ t. x.not_twenty (subst (λ (z : ℕ). IsTwenty cargo z) (one_filler ship cargo plan lower d x.below formed down (subst (λ (z : Half). Fills ship plan z x.below) (sym (lower_is half lower x.tier x.is_above e)) x.fills_below)) t),
)

-- the one below that a fault of this rule tells of
pub below_of : (ship : Ship) (cargo : Cargo) (plan : Plan) (half lower : Half) → lower ≡ half_of half.stack (half.tier - 1) half.aft → (x : IsTwentyOnForty ship cargo plan half) → Fills ship plan lower x.below
below_of ship cargo plan half lower e x = subst (λ (z : Half). Fills ship plan z x.below) (sym (lower_is half lower x.tier x.is_above e)) x.fills_below
