-- Tables made tier by tier and stack by stack, and the bounds of a place's number.
use Rattle.std.proofs.Common.{◌≡◌, ◌≤◌, ◌*◌, ℕ, ◌<◌, ◌+◌, ◌-◌, List, [], ◌∷◌, ◌++◌, arith, sym, ◌∙◌, ap, ◌⊎◌, inl, inr, subst, length, Some, get_or, take}
use Rattle.std.specs.Prelude.{slice_get, flat_map}
use Rattle.std.specs.List.{range_with_len, enumerate_from}
use Rattle.std.proofs.lemmas.List.{take_more, flat_map_more, length-take}
use Rattle.std.proofs.lemmas.Option.{same_Some, slice_get_within, get_or_from_slice_get}
use Rattle.stow_data.specs.declared.geometry.Stack.{Stack}
use Rattle.stow_data.specs.declared.geometry.Place.{Place}
use Rattle.stow_data.specs.Ship.{Ship, places}
use Rattle.stow_data.specs.Profile.{IsShip, IsStack, IsInHold, IsOnDeck}
use Rattle.stow_data.specs.CellTable.{IsBounded}
use Rattle.stow_data.proofs.Members.{range-more, enumerate-more}
use Rattle.stow_data.proofs.Listed.{place_from}

pub tier_more : {Y : Type 0} (f : ℕ → List Y) (front table new : List Y) (t : ℕ) → table ≡ front ++ flat_map f (range_with_len 0 t) → new ≡ table ++ f t → new ≡ front ++ flat_map f (range_with_len 0 (t + 1))
tier_more f front table new t e n =
    let last : 0 + t ≡ t = omega arith in
    n ∙ ap (λ x. x ++ f t) e ∙ flat_map_more f front (range_with_len 0 t) t ∙ ap (λ k. front ++ flat_map f (range_with_len 0 t ++ k ∷ [])) (sym last) ∙ ap (λ ks. front ++ flat_map f ks) (sym (range-more 0 t))

pub stack_more : {X Y : Type 0} (f : ℕ × X → List Y) (xs : List X) (table new : List Y) (i n : ℕ) (x : X) → i < length xs → x ≡ get_or xs i x → n ≡ i → table ≡ flat_map f (enumerate_from 0 (take i xs)) → new ≡ table ++ f (n, x) → new ≡ flat_map f (enumerate_from 0 (take (i + 1) xs))
stack_more {X} f xs table new i n x lt is same e made =
    let long : 0 + length (take i xs) ≡ n = omega (arith, length-take i xs) in
    let more : enumerate_from 0 (take (i + 1) xs) ≡ enumerate_from 0 (take i xs) ++ (n, x) ∷ [] =
    ap (enumerate_from 0) (take_more xs i x lt ∙ ap (λ (z : X). take i xs ++ z ∷ []) (sym is)) ∙ enumerate-more (take i xs) 0 x ∙ ap (λ (k : ℕ). enumerate_from 0 (take i xs) ++ (k, x) ∷ []) long in
    made ∙ ap (λ z. z ++ f (n, x)) e ∙ flat_map_more f [] (enumerate_from 0 (take i xs)) (n, x) ∙ ap (flat_map f) (sym more)

highest_to : (s : Stack) → IsInHold s ⊎ IsOnDeck s → s.lowest + 2 * (s.tiers - 1) ≤ 98
highest_to s (inl h) = omega (arith, h.1)
highest_to s (inr h) = h.1

pub place_bounded : (ship : Ship) (p : ℕ) (place : Place) (stack : Stack) → IsShip ship → slice_get (places ship) p ≡ Some place → slice_get ship.stacks place.stack ≡ Some stack → IsBounded stack place
place_bounded ship p place stack rules is_place is_stack =
    let from = place_from ship p place is_place in
    let same : from.stack_at ≡ stack = same_Some _ _ (sym from.is_stack ∙ is_stack) in
    let low : place.tier < stack.tiers = subst (λ (s : Stack). place.tier < s.tiers) same from.low in
    let k : place.stack < length ship.stacks = slice_get_within ship.stacks place.stack stack is_stack in
    let r : IsStack stack = subst IsStack (get_or_from_slice_get ship.stacks place.stack stack stack is_stack) (rules.each_stack place.stack stack k) in
    let top = highest_to stack r.part in
    record { bay_from = r.bay_from; bay_to = r.bay_to; tier_to = omega arith }

pub stack_in : (ship : Ship) (p : ℕ) (place : Place) → slice_get (places ship) p ≡ Some place → place.stack < length ship.stacks
stack_in ship p place h = let from = place_from ship p place h in slice_get_within ship.stacks place.stack from.stack_at from.is_stack
