-- The tiers of half-cells are few.
use Rattle.std.proofs.Common.{◌≡◌, ℕ, ◌<◌, ◌≤◌, arith, ap, subst, length, ⊎_elim}
use Rattle.std.specs.Prelude.{slice_index_or}
use Rattle.std.proofs.lemmas.Bool.{cases_lt}
use Rattle.std.proofs.lemmas.List.{get_or_past}
use Rattle.std.proofs.lemmas.Option.{slice_get-get_or, slice_get_within, get_or_from_slice_get}
use Rattle.stow_data.specs.declared.geometry.Half.{Half}
use Rattle.stow_data.specs.declared.geometry.Stack.{Stack}
use Rattle.stow_data.specs.Profile.{IsShip, IsStack, IsInHold, IsOnDeck}
use Rattle.stow_data.specs.Ship.{Ship, halves}
use Rattle.stow_data.specs.Plans.{no_half}
use Rattle.stow_data.proofs.Listed.{half_from}

few_tiers : (s : Stack) → IsStack s → s.tiers ≤ 40
few_tiers s r = ⊎_elim (λ (h : IsInHold s). omega (arith, h.0, h.1)) (λ (d : IsOnDeck s). omega (arith, d.0, d.1)) r.part

pub tiers_low : (ship : Ship) → IsShip ship → (h : ℕ) → (slice_index_or (halves ship) h no_half).tier < 40
tiers_low ship rules h = ⊎_elim (λ (l : h < length (halves ship)). inside l)
    (λ (l : length (halves ship) ≤ h). let e : slice_index_or (halves ship) h no_half ≡ no_half = get_or_past (halves ship) h no_half l in let f = ap (λ (z : Half). z.tier) e in omega (arith, f))
    (cases_lt h (length (halves ship)))
  where
    inside : h < length (halves ship) → (slice_index_or (halves ship) h no_half).tier < 40
    inside l =
        let half : Half = slice_index_or (halves ship) h no_half in
        let from = half_from ship h half (slice_get-get_or (halves ship) h no_half l) in
        let k = slice_get_within ship.stacks half.stack from.stack_at from.is_stack in
        let same = get_or_from_slice_get ship.stacks half.stack from.stack_at from.stack_at from.is_stack in
        let is : IsStack from.stack_at = subst IsStack same (rules.each_stack half.stack from.stack_at k) in
        let few = few_tiers from.stack_at is in
        omega (arith, few, from.low)
