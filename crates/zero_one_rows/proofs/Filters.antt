-- Filters of joined, mapped and enumerated lists.
use Rattle.std.proofs.Common.{◌≡◌, ℕ, suc, ◌≤◌, ◌+◌, Bool, true, false, cond, List, [], ◌∷◌, ◌++◌, arith, refl, ◌∙◌, ap, inl, inr, length}
use Rattle.std.specs.Prelude.{filter, flat_map, map}
use Rattle.std.specs.List.{range_with_len}
use Rattle.std.proofs.lemmas.List.Elements.{filter-append}
use Rattle.stow_data.proofs.Members.{Member, range-more}

pub filter_flat : {X Y : Type 0} (t : Y → Bool) (f : X → List Y) (xs : List X) → filter t (flat_map f xs) ≡ flat_map (λ x. filter t (f x)) xs
filter_flat t f [] = refl
filter_flat t f (x ∷ xs) = filter-append t (f x) (flat_map f xs) ∙ ap (λ (ys : List _). filter t (f x) ++ ys) (filter_flat t f xs)

pub filter_map_by : {X Y : Type 0} (t : Y → Bool) (f : X → Y) (xs : List X) → filter t (map f xs) ≡ map f (filter (λ x. t (f x)) xs)
filter_map_by t f [] = refl
filter_map_by {X} {Y} t f (x ∷ xs) = go (t (f x)) (filter_map_by t f xs)
  where
    go : (b : Bool) → filter t (map f xs) ≡ map f (filter (λ x. t (f x)) xs) → cond b (f x ∷ filter t (map f xs)) (filter t (map f xs)) ≡ map f (cond b (x ∷ filter (λ x. t (f x)) xs) (filter (λ x. t (f x)) xs))
    go true e = ap (λ (ys : List Y). f x ∷ ys) e
    go false e = e

pub filter_same : {X : Type 0} (t u : X → Bool) (xs : List X) → ((x : X) → Member x xs → t x ≡ u x) → filter t xs ≡ filter u xs
filter_same t u [] h = refl
filter_same {X} t u (x ∷ xs) h = ap (λ (b : Bool). cond b (x ∷ filter t xs) (filter t xs)) (h x (inl refl)) ∙ ap (λ (ys : List X). cond (u x) (x ∷ ys) ys) (filter_same t u xs (λ y m. h y (inr m)))

pub filter_none : {X : Type 0} (xs : List X) → filter (λ x. false) xs ≡ []
filter_none [] = refl
filter_none (x ∷ xs) = filter_none xs

pub flat_same : {X Y : Type 0} (f g : X → List Y) (xs : List X) → ((x : X) → Member x xs → f x ≡ g x) → flat_map f xs ≡ flat_map g xs
flat_same f g [] h = refl
flat_same {X} {Y} f g (x ∷ xs) h = ap (λ (ys : List Y). ys ++ flat_map f xs) (h x (inl refl)) ∙ ap (λ (ys : List Y). g x ++ ys) (flat_same f g xs (λ y m. h y (inr m)))

pub filter_more : (t : ℕ → Bool) (n : ℕ) → filter t (range_with_len 0 (n + 1)) ≡ filter t (range_with_len 0 n) ++ cond (t n) (n ∷ []) []
filter_more t n =
    let last : 0 + n ≡ n = omega arith in
    ap (filter t) (range-more 0 n ∙ ap (λ (k : ℕ). range_with_len 0 n ++ k ∷ []) last) ∙ filter-append t (range_with_len 0 n) (n ∷ [])

pub length_filter : {X : Type 0} (t : X → Bool) (xs : List X) → length (filter t xs) ≤ length xs
length_filter t [] = omega arith
length_filter {X} t (x ∷ xs) = go (t x) (length_filter t xs)
  where
    go : (b : Bool) → length (filter t xs) ≤ length xs → length (cond b (x ∷ filter t xs) (filter t xs)) ≤ suc (length xs)
    go true h = omega arith
    go false h = omega arith
