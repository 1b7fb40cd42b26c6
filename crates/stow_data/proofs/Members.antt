-- Members of lists, and where the items of joined lists come from.
use Rattle.std.proofs.Common.{◌≡◌, ℕ, zero, suc, ◌<◌, ◌≤◌, ◌+◌, List, [], ◌∷◌, ◌++◌, arith, refl, sym, ◌∙◌, ap, ◌⊎◌, inl, inr, ⊎_elim, subst, length, Some, add-one}
use Rattle.std.specs.Prelude.{flat_map, map, slice_get}
use Rattle.std.specs.List.{range_with_len, enumerate_from}
use Rattle.std.proofs.lemmas.Bool.{cases_eq}
use Rattle.std.proofs.lemmas.Option.{none-some, same_Some}

-- x is an item of the list
abbrev pub Member : {X : Type 0} → X → List X → Type 0
Member x [] = ⊥
Member x (y ∷ ys) = (x ≡ y) ⊎ Member x ys

pub member_left : {X : Type 0} (x : X) (xs ys : List X) → Member x xs → Member x (xs ++ ys)
member_left x [] ys h = absurd h
member_left x (y ∷ zs) ys (inl e) = inl e
member_left x (y ∷ zs) ys (inr h) = inr (member_left x zs ys h)

pub member_right : {X : Type 0} (x : X) (xs ys : List X) → Member x ys → Member x (xs ++ ys)
member_right x [] ys h = h
member_right x (y ∷ zs) ys h = inr (member_right x zs ys h)

pub member_split : {X : Type 0} (x : X) (xs ys : List X) → Member x (xs ++ ys) → Member x xs ⊎ Member x ys
member_split x [] ys h = inr h
member_split x (y ∷ zs) ys (inl e) = inl (inl e)
member_split x (y ∷ zs) ys (inr h) = ⊎_elim (λ (a : Member x zs). inl (inr a)) (λ (b : Member x ys). inr b) (member_split x zs ys h)

pub flat_at : {X Y : Type 0} (f : X → List Y) (xs : List X) (y : Y) → Member y (flat_map f xs) → (x : X) × Member x xs × Member y (f x)
flat_at f [] y h = absurd h
flat_at {X} f (x ∷ xs) y h = ⊎_elim (λ (k : Member y (f x)). (x, inl refl, k)) (λ (k : Member y (flat_map f xs)). let r = flat_at f xs y k in (r.0, inr r.1, r.2)) (member_split y (f x) (flat_map f xs) h)

pub flat_from : {X Y : Type 0} (f : X → List Y) (xs : List X) (x : X) (y : Y) → Member x xs → Member y (f x) → Member y (flat_map f xs)
flat_from f [] x y h k = absurd h
flat_from f (z ∷ zs) x y (inl e) k = member_left y (f z) (flat_map f zs) (subst (λ w. Member y (f w)) e k)
flat_from f (z ∷ zs) x y (inr h) k = member_right y (f z) (flat_map f zs) (flat_from f zs x y h k)

pub map_at : {X Y : Type 0} (f : X → Y) (xs : List X) (y : Y) → Member y (map f xs) → (x : X) × Member x xs × (y ≡ f x)
map_at f [] y h = absurd h
map_at f (x ∷ xs) y (inl e) = (x, inl refl, e)
map_at f (x ∷ xs) y (inr h) = let r = map_at f xs y h in (r.0, inr r.1, r.2)

pub map_from : {X Y : Type 0} (f : X → Y) (xs : List X) (x : X) → Member x xs → Member (f x) (map f xs)
map_from f [] x h = absurd h
map_from f (z ∷ zs) x (inl e) = inl (ap f e)
map_from f (z ∷ zs) x (inr h) = inr (map_from f zs x h)

pub range_at : (a n k : ℕ) → Member k (range_with_len a n) → (a ≤ k) × (k < a + n)
range_at a zero k h = absurd h
range_at a (suc n) k (inl e) = (omega arith, omega arith)
range_at a (suc n) k (inr h) = let r = range_at (a + 1) n k h in (omega (arith, r.0), omega (arith, r.1))

pub range_from : (a n k : ℕ) → a ≤ k → k < a + n → Member k (range_with_len a n)
range_from a zero k l h = absurd (omega arith)
range_from a (suc n) k l h = ⊎_elim (λ (e : k ≡ a). inl e) (λ (ne : k ≡ a → ⊥). inr (range_from (a + 1) n k (omega arith) (omega arith))) (cases_eq k a)

-- an item by its index is a member, and a member has an index
pub member_of : {X : Type 0} (xs : List X) (k : ℕ) (x : X) → slice_get xs k ≡ Some x → Member x xs
member_of [] k x h = absurd (none-some x h)
member_of (y ∷ ys) zero x h = inl (sym (same_Some y x h))
member_of (y ∷ ys) (suc k) x h = inr (member_of ys k x h)

pub index_of : {X : Type 0} (xs : List X) (x : X) → Member x xs → (k : ℕ) × (slice_get xs k ≡ Some x)
index_of [] x h = absurd h
index_of (y ∷ ys) x (inl e) = (0, ap (λ z. Some z) (sym e))
index_of (y ∷ ys) x (inr h) = let r = index_of ys x h in (suc r.0, r.1)

pub numbered : {X : Type 0} (xs : List X) (a : ℕ) (s : ℕ × X) → Member s (enumerate_from a xs) → (k : ℕ) × (s.0 ≡ a + k) × (slice_get xs k ≡ Some s.1)
numbered [] a s h = absurd h
numbered {X} (x ∷ xs) a s (inl e) = (0, ap (λ (z : ℕ × X). z.0) e ∙ (let q : a ≡ a + 0 = omega arith in q), ap (λ (z : ℕ × X). Some z.1) (sym e))
numbered (x ∷ xs) a s (inr h) = let r = numbered xs (a + 1) s h in (suc r.0, omega (arith, r.1), r.2)

pub listed : {X : Type 0} (xs : List X) (a k : ℕ) (x : X) → slice_get xs k ≡ Some x → Member (a + k, x) (enumerate_from a xs)
listed [] a k x h = absurd (none-some x h)
listed {X} (y ∷ ys) a zero x h = inl (ap (λ (z : X). (a + 0, z)) (sym (same_Some y x h)) ∙ ap (λ (n : ℕ). (n, y)) (let q : a + 0 ≡ a = omega arith in q))
listed {X} (y ∷ ys) a (suc k) x h = inr (subst (λ (n : ℕ). Member (n, x) (enumerate_from (a + 1) ys)) (let q : a + 1 + k ≡ a + suc k = omega arith in q) (listed ys (a + 1) k x h))

-- the items by number, of one item more
pub enumerate-more : {X : Type 0} (xs : List X) (a : ℕ) (x : X) → enumerate_from a (xs ++ x ∷ []) ≡ enumerate_from a xs ++ (a + length xs, x) ∷ []
enumerate-more {X} [] a x = ap (λ (n : ℕ). (n, x) ∷ []) (let q : a ≡ a + 0 = omega arith in q)
enumerate-more {X} (y ∷ ys) a x = ap (λ (zs : List (ℕ × X)). (a, y) ∷ zs) (enumerate-more ys (a + 1) x ∙ ap (λ (n : ℕ). enumerate_from (a + 1) ys ++ (n, x) ∷ []) (let q : a + 1 + length ys ≡ a + suc (length ys) = omega arith in q))

pub range-more : (a n : ℕ) → range_with_len a (n + 1) ≡ range_with_len a n ++ (a + n) ∷ []
range-more a n = rw add-one (more a n)
  where
    more : (a n : ℕ) → range_with_len a (suc n) ≡ range_with_len a n ++ (a + n) ∷ []
    more a zero = ap (λ (k : ℕ). k ∷ []) (let q : a ≡ a + 0 = omega arith in q)
    more a (suc n) = ap (λ (ks : List ℕ). a ∷ ks) (more (a + 1) n ∙ ap (λ (k : ℕ). range_with_len (a + 1) n ++ k ∷ []) (let q : a + 1 + n ≡ a + suc n = omega arith in q))
