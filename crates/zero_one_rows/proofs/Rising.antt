-- Lists that rise.
use Rattle.std.proofs.Common.{ℕ, zero, suc, ◌<◌, ◌+◌, Bool, true, false, cond, List, [], ◌∷◌, ◌++◌, arith, refl, sym, inl, inr, ⊎_elim, length, subst, AllPairs}
use Rattle.std.specs.Prelude.{filter, flat_map, map, slice_index_or}
use Rattle.std.specs.List.{range_with_len}
use Rattle.stow_data.proofs.Members.{Member, member_split, flat_at, map_at, range_at}
use Rattle.stow_data.proofs.Distinct.{Each, each_at, each_from}
use Rattle.zero_one_rows.proofs.VariableList.{filter_at, get_member, member_get}

abbrev pub Rising : {X : Type 0} → (X → X → Type 0) → List X → Type 0
Rising R [] = Unit {0}
Rising R (x ∷ xs) = Each (R x) xs × Rising R xs

pub rising_append : {X : Type 0} (R : X → X → Type 0) (xs ys : List X) → Rising R xs → Rising R ys → ((x y : X) → Member x xs → Member y ys → R x y) → Rising R (xs ++ ys)
rising_append R [] ys a b h = b
rising_append R (x ∷ xs) ys a b h = (
  each_from _ (xs ++ ys) (λ y n. ⊎_elim (λ (k : Member y xs). each_at _ xs y a.0 k) (λ (k : Member y ys). h x y (inl refl) k) (member_split y xs ys n)),
  rising_append R xs ys a.1 b (λ z y n k. h z y (inr n) k),
)

pub rising_flat : {X Y : Type 0} (R : Y → Y → Type 0) (S : X → X → Type 0) (f : X → List Y) (xs : List X) → Rising S xs → ((x z : X) → S x z → (y w : Y) → Member y (f x) → Member w (f z) → R y w) → ((x : X) → Rising R (f x)) → Rising R (flat_map f xs)
rising_flat R S f [] d h each = tt
rising_flat R S f (x ∷ xs) d h each = rising_append R (f x) (flat_map f xs) (each x) (rising_flat R S f xs d.1 h each)
    (λ a b n k. let r = flat_at f xs b k in h x r.0 (each_at _ xs r.0 d.0 r.1) a b n r.2)

pub rising_map : {X Y : Type 0} (R : Y → Y → Type 0) (S : X → X → Type 0) (f : X → Y) (xs : List X) → Rising S xs → ((x z : X) → S x z → R (f x) (f z)) → Rising R (map f xs)
rising_map R S f [] d h = tt
rising_map R S f (x ∷ xs) d h = (each_from _ (map f xs) (λ y n. let r = map_at f xs y n in subst (R (f x)) (sym r.2) (h x r.0 (each_at _ xs r.0 d.0 r.1))), rising_map R S f xs d.1 h)

pub rising_range : (a n : ℕ) → Rising (λ (x y : ℕ). x < y) (range_with_len a n)
rising_range a zero = tt
rising_range a (suc n) = (each_from _ (range_with_len (a + 1) n) (λ k h. let r = range_at (a + 1) n k h in omega (arith, r.0)), rising_range (a + 1) n)

pub rising_filter : {X : Type 0} (R : X → X → Type 0) (t : X → Bool) (xs : List X) → Rising R xs → Rising R (filter t xs)
rising_filter R t [] d = tt
rising_filter {X} R t (x ∷ xs) d = go (t x) (each_from _ (filter t xs) (λ y n. each_at _ xs y d.0 (filter_at t xs y n).0)) (rising_filter R t xs d.1)
  where
    go : (b : Bool) → Each (R x) (filter t xs) → Rising R (filter t xs) → Rising R (cond b (x ∷ filter t xs) (filter t xs))
    go true a r = (a, r)
    go false a r = r

pub rising_get : {X : Type 0} (R : X → X → Type 0) (xs : List X) (i j : ℕ) (d : X) → Rising R xs → i < j → j < length xs → R (slice_index_or xs i d) (slice_index_or xs j d)
rising_get R [] i j d h l k = absurd (omega arith)
rising_get R (x ∷ xs) i zero d h l k = absurd (omega arith)
rising_get R (x ∷ xs) zero (suc j) d h l k = each_at _ xs (slice_index_or xs j d) h.0 (get_member xs j d (omega arith))
rising_get R (x ∷ xs) (suc i) (suc j) d h l k = rising_get R xs i j d h.1 (omega arith) (omega arith)

-- the same by the indexes
pub rising_pairs : {X : Type 0} (R : X → X → Type 0) (xs : List X) → Rising R xs → AllPairs R xs
rising_pairs R xs h = λ i j d l k. rising_get R xs i j d h l k

pub pairs_rise : {X : Type 0} (R : X → X → Type 0) (xs : List X) → AllPairs R xs → Rising R xs
pairs_rise R [] h = tt
pairs_rise R (x ∷ xs) h = (
  each_from (R x) xs (λ y m. let g = member_get xs y x m in subst (R x) g.2 (h 0 (suc g.0) x (omega arith) (omega (arith, g.1)))),
  pairs_rise R xs (λ i j d l k. h (suc i) (suc j) d (omega arith) (omega arith)),
)
