-- A stack lies under one cover, and stands on one. A half-cell is directly above one.
use Rattle.std.proofs.Common.{◌≡◌, ◌≢◌, ℕ, zero, suc, List, [], ◌∷◌, ◌++◌, arith, refl, sym, ◌∙◌, ap, inl, inr, subst, Some, None}
use Rattle.std.specs.Prelude.{slice_get, flat_map, AllPairs, MatchOption, Option}
use Rattle.std.proofs.lemmas.Option.{none-some, same_Some, slice_get_within, get_or_from_slice_get}
use Rattle.stow_data.specs.declared.geometry.Half.{Half}
use Rattle.stow_data.specs.declared.geometry.Cover.{Cover}
use Rattle.stow_data.specs.Ship.{Ship, LiesUnder, StandsOn, IsAbove}
use Rattle.stow_data.specs.Profile.{IsShip}
use Rattle.stow_data.proofs.Members.{Member, member_left, member_right, member_of, index_of, flat_from}
use Rattle.stow_data.proofs.Distinct.{Distinct, each_at, each_from}
use Rattle.stow_data.proofs.InOrder.{half_once}
use Rattle.stow_data.proofs.CoverLemmas.{contains_member}

-- what each pair of a list says, for the item before its rest
pub distinct_pairs : {X : Type 0} (xs : List X) → AllPairs (λ s t. s ≢ t) xs → Distinct xs
distinct_pairs [] h = tt
distinct_pairs (x ∷ xs) h = (
  each_from _ xs (λ y n e. let k = index_of xs y n in h 0 (suc k.0) x (omega arith) (omega (arith, slice_get_within xs k.0 y k.1)) (e ∙ sym (get_or_from_slice_get xs k.0 y x k.1))),
  distinct_pairs xs (λ i j d l m. h (suc i) (suc j) d (omega arith) (omega arith)),
)

-- nothing stands in both of two lists
apart : {X : Type 0} (xs ys : List X) (z : X) → Distinct (xs ++ ys) → Member z xs → Member z ys → ⊥
apart [] ys z d m n = absurd m
apart (x ∷ xs) ys z d (inl e) n = each_at _ (xs ++ ys) z d.0 (member_right z xs ys n) (sym e)
apart (x ∷ xs) ys z d (inr m) n = apart xs ys z d.1 m n

left_part : {X : Type 0} (xs ys : List X) → Distinct (xs ++ ys) → Distinct xs
left_part [] ys d = tt
left_part (x ∷ xs) ys d = (each_from _ xs (λ y n. each_at _ (xs ++ ys) y d.0 (member_left y xs ys n)), left_part xs ys d.1)

right_part : {X : Type 0} (xs ys : List X) → Distinct (xs ++ ys) → Distinct ys
right_part [] ys d = d
right_part (x ∷ xs) ys d = right_part xs ys d.1

-- where the lists of all items have nothing twice, what stands in the lists of two items makes them one
one_list : {X Y : Type 0} (f : X → List Y) (xs : List X) (i j : ℕ) (x y : X) (s : Y) → Distinct (flat_map f xs) → slice_get xs i ≡ Some x → slice_get xs j ≡ Some y → Member s (f x) → Member s (f y) → i ≡ j
one_list f [] i j x y s d a b m n = absurd (none-some x a)
one_list f (z ∷ zs) zero zero x y s d a b m n = refl
one_list f (z ∷ zs) zero (suc j) x y s d a b m n = absurd (apart (f z) (flat_map f zs) s d (subst (λ w. Member s (f w)) (sym (same_Some z x a)) m) (flat_from f zs y s (member_of zs j y b) n))
one_list f (z ∷ zs) (suc i) zero x y s d a b m n = absurd (apart (f z) (flat_map f zs) s d (subst (λ w. Member s (f w)) (sym (same_Some z y b)) n) (flat_from f zs x s (member_of zs i x a) m))
one_list f (z ∷ zs) (suc i) (suc j) x y s d a b m n = ap suc (one_list f zs i j x y s (right_part (f z) (flat_map f zs) d) a b m n)

pub one_over : (ship : Ship) (s k l : ℕ) → IsShip ship → LiesUnder ship s k → LiesUnder ship s l → k ≡ l
one_over ship s k l rules a b = one_list (λ c. c.under) ship.covers k l a.cover b.cover s (left_part _ _ (distinct_pairs _ rules.named_once)) a.is_cover b.is_cover (contains_member _ s a.named) (contains_member _ s b.named)

pub one_under : (ship : Ship) (s k l : ℕ) → IsShip ship → StandsOn ship s k → StandsOn ship s l → k ≡ l
one_under ship s k l rules a b = one_list (λ c. c.on) ship.covers k l a.cover b.cover s (right_part (flat_map (λ (c : Cover). c.under) ship.covers) _ (distinct_pairs _ rules.named_once)) a.is_cover b.is_cover (contains_member _ s a.named) (contains_member _ s b.named)

half_is : (a b : Half) → a.stack ≡ b.stack → a.tier ≡ b.tier → a.aft ≡ b.aft → a ≡ b
half_is a b e f g =
    ap (λ (x : ℕ). record { stack = x; tier = a.tier; aft = a.aft }) e
    ∙ ap (λ (x : ℕ). record { stack = b.stack; tier = x; aft = a.aft }) f
    ∙ ap (λ x. record { stack = b.stack; tier = b.tier; aft = x }) g

pub one_below : (ship : Ship) (h a b : ℕ) → IsAbove ship h a → IsAbove ship h b → a ≡ b
one_below ship h a b u v =
    let same : u.upper ≡ v.upper = same_Some u.upper v.upper (sym u.is_upper ∙ v.is_upper) in
    let tiers : u.upper.tier ≡ v.upper.tier = ap (λ (z : Half). z.tier) same in
    let low : u.lower ≡ v.lower = half_is u.lower v.lower
    (sym u.directly.same_stack ∙ (ap (λ (z : Half). z.stack) same ∙ v.directly.same_stack))
    (omega (arith, tiers, u.directly.next_tier, v.directly.next_tier))
    (sym u.directly.same_side ∙ (ap (λ (z : Half). z.aft) same ∙ v.directly.same_side)) in
    half_once ship a b v.lower (u.is_lower ∙ ap (λ (z : Half). Some z) low) v.is_lower

-- an answer of which there is one only is the one
pub back_from : (P : ℕ → Type 0) (answer : Option ℕ) → MatchOption answer ((k : ℕ) → P k → ⊥) P → ((k l : ℕ) → P k → P l → k ≡ l) → (k : ℕ) → P k → answer ≡ Some k
back_from P None never one k h = absurd (never k h)
back_from P (Some l) is one k h = ap (λ (z : ℕ). Some z) (one l k is h)
