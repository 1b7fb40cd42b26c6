-- Weights of lists, and what holds of each element.
use Rattle.std.proofs.Common.{◌≡◌, ℕ, ◌+◌, inl, inr, List, [], ◌∷◌, ◌++◌, map, refl, sym, subst, arith}
use Rattle.search_core.specs.Bags.{weigh, Every, In}

module _ {A : Type 0} where
  pub weigh_append : (h : A → ℕ) (xs ys : List A) → weigh h (xs ++ ys) ≡ weigh h xs + weigh h ys
  weigh_append h [] ys = omega arith
  weigh_append h (x ∷ xs) ys = omega (arith, weigh_append h xs ys)

  pub weigh_le : (g h : A → ℕ) (xs : List A) → ((x : A) → g x ≡ h x) → weigh g xs ≡ weigh h xs
  weigh_le g h [] e = refl
  weigh_le g h (x ∷ xs) e = omega (arith, e x, weigh_le g h xs e)

  pub every_append : (P : A → Type 0) (xs ys : List A) → Every P xs → Every P ys → Every P (xs ++ ys)
  every_append P [] ys h k = k
  every_append P (x ∷ xs) ys h k = (h.0, every_append P xs ys h.1 k)

  pub every_left : (P : A → Type 0) (xs ys : List A) → Every P (xs ++ ys) → Every P xs
  every_left P [] ys h = tt
  every_left P (x ∷ xs) ys h = (h.0, every_left P xs ys h.1)

  pub every_right : (P : A → Type 0) (xs ys : List A) → Every P (xs ++ ys) → Every P ys
  every_right P [] ys h = h
  every_right P (x ∷ xs) ys h = every_right P xs ys h.1

  pub every_more : (P Q : A → Type 0) (xs : List A) → ((x : A) → P x → Q x) → Every P xs → Every Q xs
  every_more P Q [] f h = tt
  every_more P Q (x ∷ xs) f h = (f x h.0, every_more P Q xs f h.1)

  pub every_in : (P : A → Type 0) (xs : List A) (a : A) → Every P xs → In a xs → P a
  every_in P [] a h i = absurd i
  every_in P (x ∷ xs) a h i = elim i [ inl e ↦ subst P (sym e) h.0 | inr more ↦ every_in P xs a h.1 more ]

pub weigh_map : {A B : Type 0} (f : A → B) (h : B → ℕ) (xs : List A) → weigh h (map f xs) ≡ weigh (λ x. h (f x)) xs
weigh_map f h [] = refl
weigh_map f h (x ∷ xs) = omega (arith, weigh_map f h xs)
