-- What holds of each item and each later one.
use Rattle.std.proofs.Common.{◌≡◌, ℕ, zero, suc, ◌+◌, ◌<◌, List, [], ◌∷◌, ◌++◌, get_or, map, Some, refl, sym, subst, arith, inl, inr, ⊎_elim}
use Rattle.std.specs.Prelude.{flat_map, slice_get, AllPairs}
use Rattle.std.specs.List.{range_with_len, enumerate_from}
use Rattle.std.proofs.lemmas.Option.{slice_get-get_or, get_or_from_slice_get, slice_get_within}
use Rattle.stow_data.proofs.Members.{Member, member_of, member_split, flat_at, map_at, range_at, numbered}

-- each item stands in R to each later one
abbrev pub InPairs : {X : Type 0} → (X → X → Type 0) → List X → Type 0
InPairs R [] = Unit {0}
InPairs {X} R (x ∷ xs) = ((y : X) → Member y xs → R x y) × InPairs R xs

pub pairs_append : {X : Type 0} (R : X → X → Type 0) (xs ys : List X) → InPairs R xs → InPairs R ys → ((x y : X) → Member x xs → Member y ys → R x y) → InPairs R (xs ++ ys)
pairs_append R [] ys h k m = k
pairs_append {X} R (x ∷ xs) ys h k m =
    (λ y e. ⊎_elim (λ (a : Member y xs). h.0 y a) (λ (b : Member y ys). m x y (inl refl) b) (member_split y xs ys e), pairs_append R xs ys h.1 k (λ z y a b. m z y (inr a) b))

pub pairs_imply : {X : Type 0} (R S : X → X → Type 0) (xs : List X) → ((x y : X) → R x y → S x y) → InPairs R xs → InPairs S xs
pairs_imply R S [] h k = tt
pairs_imply R S (x ∷ xs) h k = (λ y m. h x y (k.0 y m), pairs_imply R S xs h k.1)

-- of joined lists
pub pairs_flat : {X Y : Type 0} (R : Y → Y → Type 0) (f : X → List Y) (xs : List X) → ((x : X) → InPairs R (f x)) → InPairs (λ a b. (x y : Y) → Member x (f a) → Member y (f b) → R x y) xs → InPairs R (flat_map f xs)
pairs_flat R f [] h k = tt
pairs_flat R f (z ∷ zs) h k = pairs_append R (f z) (flat_map f zs) (h z) (pairs_flat R f zs h k.1) (λ x y a b. let r = flat_at f zs y b in k.0 r.0 r.1 x y a r.2)

pub pairs_map : {X Y : Type 0} (R : Y → Y → Type 0) (f : X → Y) (xs : List X) → InPairs (λ a b. R (f a) (f b)) xs → InPairs R (map f xs)
pairs_map R f [] h = tt
pairs_map R f (x ∷ xs) h = (λ y m. let r = map_at f xs y m in subst (R (f x)) (sym r.2) (h.0 r.0 r.1), pairs_map R f xs h.1)

pub pairs_range : (R : ℕ → ℕ → Type 0) (a n : ℕ) → ((i j : ℕ) → i < j → R i j) → InPairs R (range_with_len a n)
pairs_range R a zero h = tt
pairs_range R a (suc n) h = (λ y m. let r = range_at (a + 1) n y m in h a y (omega (arith, r.0)), pairs_range R (a + 1) n h)

pub pairs_numbered : {X : Type 0} (R : ℕ × X → ℕ × X → Type 0) (a : ℕ) (xs : List X) → ((s t : ℕ × X) → s.0 < t.0 → R s t) → InPairs R (enumerate_from a xs)
pairs_numbered R a [] h = tt
pairs_numbered R a (x ∷ xs) h = (λ y m. let r = numbered xs (a + 1) y m in h (a, x) y (omega (arith, r.1)), pairs_numbered R (a + 1) xs h)

-- by their indices
pub pair_at : {X : Type 0} (R : X → X → Type 0) (xs : List X) (i j : ℕ) (x y : X) → InPairs R xs → slice_get xs i ≡ Some x → slice_get xs j ≡ Some y → i < j → R x y
pair_at R [] i j x y h k l m = absurd cc
pair_at R (z ∷ zs) i zero x y h k l m = absurd (omega arith)
pair_at {X} R (z ∷ zs) zero (suc j) x y h k l m = let e : z ≡ x = cc in subst (λ (w : X). R w y) e (h.0 y (member_of zs j y l))
pair_at R (z ∷ zs) (suc i) (suc j) x y h k l m = pair_at R zs i j x y h.1 k l (omega arith)

pub all_pairs : {X : Type 0} (R : X → X → Type 0) (xs : List X) → InPairs R xs → AllPairs R xs
all_pairs R xs h i j d l m = pair_at R xs i j (get_or xs i d) (get_or xs j d) h (slice_get-get_or xs i d (omega arith)) (slice_get-get_or xs j d m) l

pub all_pairs_at : {X : Type 0} (R : X → X → Type 0) (xs : List X) (i j : ℕ) (x y : X) → AllPairs R xs → slice_get xs i ≡ Some x → slice_get xs j ≡ Some y → i < j → R x y
all_pairs_at {X} R xs i j x y h k l m =
    let a : get_or xs i x ≡ x = get_or_from_slice_get xs i x x k in
    let b : get_or xs j x ≡ y = get_or_from_slice_get xs j y x l in
    subst (λ (w : X). R w y) a (subst (λ (w : X). R (get_or xs i x) w) b (h i j x m (slice_get_within xs j y l)))
