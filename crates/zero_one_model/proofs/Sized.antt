-- Rows in range, and how large coefficients and right sides are.
use Rattle.std.proofs.Common.{◌≡◌, ℕ, ◌<◌, ◌≤◌, Bool, true, false, ◌&&◌, arith, refl, ap, subst, length, ⊎_elim}
use Rattle.std.proofs.lemmas.Bool.{false≢true, cases_lt}
use Rattle.std.proofs.lemmas.Option.{slice_get-get_or, slice_get_within, get_or_from_slice_get}
use Rattle.std.proofs.lemmas.List.{get_or_past}
use Rattle.stow_data.specs.declared.geometry.Stack.{Stack}
use Rattle.stow_data.specs.declared.geometry.Half.{Half}
use Rattle.stow_data.specs.Ship.{halves, places}
use Rattle.stow_data.specs.Profile.{IsShip, IsStack, IsInHold, IsOnDeck}
use Rattle.stow_data.proofs.Listed.{half_from, place_from}
use Rattle.zero_one_rows.specs.Variables.{Voyage, place}
use Rattle.zero_one_rows.specs.Rows.{half, stack}
use Rattle.stow_data.specs.Plans.{no_half, no_stack, no_place}

pub first_true : (a b : Bool) → (a && b) ≡ true → a ≡ true
first_true true b h = refl
first_true false b h = h

pub second_true : (a b : Bool) → (a && b) ≡ true → b ≡ true
second_true true b h = h
second_true false b h = absurd (false≢true h)

-- no stack has more than 39 tiers
few_tiers : (s : Stack) → IsStack s → s.tiers ≤ 39
few_tiers s r = ⊎_elim (λ (h : IsInHold s). omega (arith, h.0, h.1)) (λ (d : IsOnDeck s). omega (arith, d.0, d.1)) r.part

pub halves_low : (m : Voyage) → IsShip m.ship → (h : ℕ) → (half m h).tier < 40
halves_low m rules h = ⊎_elim (λ (l : h < length (halves m.ship)). inside l)
    (λ (l : length (halves m.ship) ≤ h). let e : half m h ≡ no_half = get_or_past (halves m.ship) h no_half l in let f = ap (λ (z : Half). z.tier) e in omega (arith, f))
    (cases_lt h (length (halves m.ship)))
  where
    inside : h < length (halves m.ship) → (half m h).tier < 40
    inside l =
        let from = half_from m.ship h (half m h) (slice_get-get_or (halves m.ship) h no_half l) in
        let k = slice_get_within m.ship.stacks (half m h).stack from.stack_at from.is_stack in
        let same = get_or_from_slice_get m.ship.stacks (half m h).stack from.stack_at from.stack_at from.is_stack in
        let is : IsStack from.stack_at = subst IsStack same (rules.each_stack (half m h).stack from.stack_at k) in
        let few = few_tiers from.stack_at is in
        omega (arith, few, from.low)

pub half_in : (m : Voyage) → IsShip m.ship → (h : ℕ) → h < length (halves m.ship) → (half m h).stack < length m.ship.stacks
half_in m rules h l =
    let from = half_from m.ship h (half m h) (slice_get-get_or (halves m.ship) h no_half l) in
    slice_get_within m.ship.stacks (half m h).stack from.stack_at from.is_stack

pub above_low : (m : Voyage) → IsShip m.ship → (h t : ℕ) → h < length (halves m.ship) → t < (stack m (half m h).stack).tiers → t < 40
above_low m rules h t l k =
    let is : IsStack (stack m (half m h).stack) = rules.each_stack (half m h).stack no_stack (half_in m rules h l) in
    let few = few_tiers (stack m (half m h).stack) is in
    omega (arith, few, k)

pub place_in : (m : Voyage) → IsShip m.ship → (p : ℕ) → p < length (places m.ship) → ((place m p).stack < length m.ship.stacks) × ((place m p).tier < 40)
place_in m rules p l =
    let from = place_from m.ship p (place m p) (slice_get-get_or (places m.ship) p no_place l) in
    let k = slice_get_within m.ship.stacks (place m p).stack from.stack_at from.is_stack in
    let same = get_or_from_slice_get m.ship.stacks (place m p).stack from.stack_at from.stack_at from.is_stack in
    let is : IsStack from.stack_at = subst IsStack same (rules.each_stack (place m p).stack from.stack_at k) in
    let few = few_tiers from.stack_at is in
    (k, omega (arith, few, from.low))
