-- The first ones of a list: no two are like, and each item is like one of them.
use Rattle.std.proofs.Common.{◌≡◌, Bool, true, false, cond, List, [], ◌∷◌, ◌++◌, refl, sym, ◌∙◌, ap}
use Rattle.std.specs.Prelude.{◌||◌, not, filter}
use Rattle.std.specs.List.{list_any}
use Rattle.std.specs.Cmp.{IsEquivalence}
use Rattle.std.proofs.lemmas.Bool.{both_ways, false≢true, not_from_false, false_from_ne_true, or_parts, or_left}
use Rattle.std.proofs.lemmas.List.Elements.{filter-append}
use Rattle.stow_data.specs.Kinds.{first_ones}
use Rattle.stow_data.proofs.Distinct.{Each}

pub each_filter : {X : Type 0} (P : X → Type 0) (test : X → Bool) (xs : List X) → Each P xs → Each P (filter test xs)
each_filter P test [] h = tt
each_filter {X} P test (x ∷ xs) h = go (test x) (each_filter P test xs h.1)
  where
    go : (b : Bool) → Each P (filter test xs) → Each P (cond b (x ∷ filter test xs) (filter test xs))
    go true r = (h.0, r)
    go false r = r

-- what passes the test
each_passes : {X : Type 0} (P : X → Type 0) (test : X → Bool) (xs : List X) → ((x : X) → test x ≡ true → P x) → Each P (filter test xs)
each_passes P test [] h = tt
each_passes {X} P test (x ∷ xs) h = go (test x) refl (each_passes P test xs h)
  where
    go : (b : Bool) → test x ≡ b → Each P (filter test xs) → Each P (cond b (x ∷ filter test xs) (filter test xs))
    go true e r = (h x e, r)
    go false e r = r

-- no two are like
abbrev pub Apart : {X : Type 0} → (X → X → Bool) → List X → Type 0
Apart like [] = Unit {0}
Apart like (x ∷ xs) = Each (λ y. like x y ≡ false) xs × Apart like xs

apart_filter : {X : Type 0} (like : X → X → Bool) (test : X → Bool) (xs : List X) → Apart like xs → Apart like (filter test xs)
apart_filter like test [] h = tt
apart_filter {X} like test (x ∷ xs) h = go (test x) (apart_filter like test xs h.1)
  where
    go : (b : Bool) → Apart like (filter test xs) → Apart like (cond b (x ∷ filter test xs) (filter test xs))
    go true r = (each_filter (λ y. like x y ≡ false) test xs h.0, r)
    go false r = r

unlike : (b : Bool) → not b ≡ true → b ≡ false
unlike true h = absurd (false≢true h)
unlike false h = refl

pub first_apart : {X : Type 0} (like : X → X → Bool) (xs : List X) → Apart like (first_ones like xs)
first_apart like [] = tt
first_apart like (x ∷ xs) = (
  each_passes (λ y. like x y ≡ false) (λ y. not (like x y)) (first_ones like xs) (λ y h. unlike (like x y) h),
  apart_filter like (λ y. not (like x y)) (first_ones like xs) (first_apart like xs),
)

-- of one item more: it stands at the end, where it is like none
pub first_more : {X : Type 0} (like : X → X → Bool) (xs : List X) (z : X) → first_ones like (xs ++ z ∷ []) ≡ first_ones like xs ++ cond (list_any (λ y. like y z) xs) [] (z ∷ [])
first_more like [] z = refl
first_more {X} like (x ∷ xs) z =
    ap (λ (ys : List X). x ∷ filter (λ y. not (like x y)) ys) (first_more like xs z)
    ∙ ap (λ (ys : List X). x ∷ ys) (filter-append (λ y. not (like x y)) (first_ones like xs) (cond (list_any (λ y. like y z) xs) [] (z ∷ [])) ∙ ap (λ (ys : List X). filter (λ y. not (like x y)) (first_ones like xs) ++ ys) (last (like x z) (list_any (λ y. like y z) xs) refl))
  where
    last : (b any : Bool) → like x z ≡ b → filter (λ y. not (like x y)) (cond any [] (z ∷ [])) ≡ cond (b || any) [] (z ∷ [])
    last true true e = refl
    last false true e = refl
    last true false e = ap (λ (t : Bool). cond (not t) (z ∷ []) []) e
    last false false e = ap (λ (t : Bool). cond (not t) (z ∷ []) []) e

any_filter : {X : Type 0} (P test : X → Bool) (xs : List X) → ((x : X) → P x ≡ true → test x ≡ true) → list_any P (filter test xs) ≡ list_any P xs
any_filter P test [] h = refl
any_filter {X} P test (x ∷ xs) h = go (test x) refl (any_filter P test xs h)
  where
    go : (b : Bool) → test x ≡ b → list_any P (filter test xs) ≡ list_any P xs → list_any P (cond b (x ∷ filter test xs) (filter test xs)) ≡ P x || list_any P xs
    go true e r = ap (λ (t : Bool). P x || t) r
    go false e r = r ∙ sym (ap (λ (t : Bool). t || list_any P xs) (false_from_ne_true (P x) (λ p. both_ways (test x) e (h x p))))

-- an item is like one of the first ones where it is like any
pub any_first : {X : Type 0} (like : X → X → Bool) → IsEquivalence like → (xs : List X) (z : X) → list_any (λ y. like y z) (first_ones like xs) ≡ list_any (λ y. like y z) xs
any_first like eq [] z = refl
any_first {X} like eq (x ∷ xs) z = go (like x z) refl (any_first like eq xs z)
  where
    go : (b : Bool) → like x z ≡ b → list_any (λ y. like y z) (first_ones like xs) ≡ list_any (λ y. like y z) xs → like x z || list_any (λ y. like y z) (filter (λ y. not (like x y)) (first_ones like xs)) ≡ like x z || list_any (λ y. like y z) xs
    go true e r = or_left (like x z) _ e ∙ sym (or_left (like x z) _ e)
    go false e r = ap (λ (t : Bool). like x z || t)
        (any_filter (λ y. like y z) (λ y. not (like x y)) (first_ones like xs) (λ y p. not_from_false (like x y) (false_from_ne_true (like x y) (λ q. both_ways (like x z) e (eq.congr x y z q ∙ p)))) ∙ r)

-- what is like none
pub none_like : {X : Type 0} (like : X → X → Bool) → IsEquivalence like → (xs : List X) (z : X) → list_any (λ y. like y z) xs ≡ false → filter (like z) xs ≡ []
none_like like eq [] z h = refl
none_like {X} like eq (x ∷ xs) z h =
    let parts = or_parts (like x z) (list_any (λ y. like y z) xs) h in
    ap (λ (b : Bool). cond b (x ∷ filter (like z) xs) (filter (like z) xs)) (eq.symm z x ∙ parts.0) ∙ none_like like eq xs z parts.1
