-- Lists in which nothing stands twice.
use Rattle.std.proofs.Common.{◌≡◌, ℕ, zero, suc, ◌+◌, List, [], ◌∷◌, ◌++◌, arith, refl, sym, ◌∙◌, ap, inl, inr, ⊎_elim, subst, Some}
use Rattle.std.specs.Prelude.{flat_map, map, slice_get}
use Rattle.std.specs.List.{range_with_len, enumerate_from}
use Rattle.std.proofs.lemmas.Option.{none-some, same_Some}
use Rattle.stow_data.proofs.Members.{Member, member_split, member_of, flat_at, map_at, range_at, numbered}

abbrev pub Each : {X : Type 0} → (X → Type 0) → List X → Type 0
Each P [] = Unit {0}
Each P (x ∷ xs) = P x × Each P xs

pub each_at : {X : Type 0} (P : X → Type 0) (xs : List X) (x : X) → Each P xs → Member x xs → P x
each_at P [] x each h = absurd h
each_at P (y ∷ ys) x each (inl e) = subst P (sym e) each.0
each_at P (y ∷ ys) x each (inr h) = each_at P ys x each.1 h

pub each_from : {X : Type 0} (P : X → Type 0) (xs : List X) → ((x : X) → Member x xs → P x) → Each P xs
each_from P [] h = tt
each_from P (y ∷ ys) h = (h y (inl refl), each_from P ys (λ x n. h x (inr n)))

-- the key of each item differs from those of all later ones
abbrev pub Differ : {X K : Type 0} → (X → K) → List X → Type 0
Differ key [] = Unit {0}
Differ key (x ∷ xs) = Each (λ y. key x ≡ key y → ⊥) xs × Differ key xs

abbrev pub Distinct : {X : Type 0} → List X → Type 0
Distinct {X} xs = Differ (λ (x : X). x) xs

pub distinct_append : {X : Type 0} (xs ys : List X) → Distinct xs → Distinct ys → ((x y : X) → Member x xs → Member y ys → x ≡ y → ⊥) → Distinct (xs ++ ys)
distinct_append [] ys a b h = b
distinct_append (x ∷ xs) ys a b h = (
  each_from _ (xs ++ ys) (λ y n. ⊎_elim (λ (k : Member y xs). each_at _ xs y a.0 k) (λ (k : Member y ys). h x y (inl refl) k) (member_split y xs ys n)),
  distinct_append xs ys a.1 b (λ z y n k. h z y (inr n) k),
)

pub distinct_flat : {X Y K : Type 0} (f : X → List Y) (key : Y → K) (of : X → K) (xs : List X) → Differ of xs → ((x : X) (y : Y) → Member y (f x) → key y ≡ of x) → ((x : X) → Distinct (f x)) → Distinct (flat_map f xs)
distinct_flat f key of [] d h each = tt
distinct_flat f key of (x ∷ xs) d h each = distinct_append (f x) (flat_map f xs) (each x) (distinct_flat f key of xs d.1 h each)
    (λ a b n k e. let r = flat_at f xs b k in each_at _ xs r.0 d.0 r.1 (sym (h x a n) ∙ (ap key e ∙ h r.0 b r.2)))

pub distinct_map : {X Y : Type 0} (f : X → Y) (key : Y → X) (xs : List X) → ((x : X) → key (f x) ≡ x) → Distinct xs → Distinct (map f xs)
distinct_map f key [] h d = tt
distinct_map f key (x ∷ xs) h d = (each_from _ (map f xs) (λ y n e. let r = map_at f xs y n in each_at _ xs r.0 d.0 r.1 (sym (h x) ∙ (ap key (e ∙ r.2) ∙ h r.0))), distinct_map f key xs h d.1)

pub distinct_range : (a n : ℕ) → Distinct (range_with_len a n)
distinct_range a zero = tt
distinct_range a (suc n) = (each_from _ (range_with_len (a + 1) n) (λ k h e. let r = range_at (a + 1) n k h in absurd (omega (arith, r.0))), distinct_range (a + 1) n)

pub differ_numbers : {X : Type 0} (a : ℕ) (xs : List X) → Differ (λ (s : ℕ × X). s.0) (enumerate_from a xs)
differ_numbers a [] = tt
differ_numbers {X} a (x ∷ xs) = (each_from _ (enumerate_from (a + 1) xs) (λ s h e. let r = numbered xs (a + 1) s h in absurd (let f : a ≡ s.0 = e in omega (arith, r.1, f))), differ_numbers (a + 1) xs)

-- an item stands at one index
pub distinct_get : {X : Type 0} (xs : List X) (i j : ℕ) (x : X) → Distinct xs → slice_get xs i ≡ Some x → slice_get xs j ≡ Some x → i ≡ j
distinct_get [] i j x d h k = absurd (none-some x h)
distinct_get (y ∷ ys) zero zero x d h k = refl
distinct_get (y ∷ ys) zero (suc j) x d h k = absurd (each_at _ ys x d.0 (member_of ys j x k) (same_Some y x h))
distinct_get (y ∷ ys) (suc i) zero x d h k = absurd (each_at _ ys x d.0 (member_of ys i x h) (same_Some y x k))
distinct_get (y ∷ ys) (suc i) (suc j) x d h k = ap suc (distinct_get ys i j x d.1 h k)
