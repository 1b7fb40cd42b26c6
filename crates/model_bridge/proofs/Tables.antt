-- Lists of what a function gives for the numbers below n.
use Rattle.std.proofs.Common.{◌≡◌, ℕ, zero, suc, ◌<◌, ◌≤◌, ◌+◌, List, [], ◌∷◌, ◌++◌, arith, refl, ◌∙◌, ap, length}
use Rattle.std.specs.Prelude.{map, replicate, slice_get, slice_index_or, Some}
use Rattle.std.specs.List.{range_with_len}
use Rattle.std.proofs.lemmas.List.FromFn.{get_or-map-range_with_len, length-map-range_with_len, map-range_with_len_more}

pub given_at : {X : Type 0} (f : ℕ → X) (n i : ℕ) (d : X) → i < n → slice_index_or (map f (range_with_len 0 n)) i d ≡ f i
given_at f n i d l = get_or-map-range_with_len f 0 n i i d l (omega arith)

pub given_long : {X : Type 0} (f : ℕ → X) (n : ℕ) → length (map f (range_with_len 0 n)) ≡ n
given_long f n = length-map-range_with_len f 0 n

pub given_more : {X : Type 0} (f : ℕ → X) (n : ℕ) → map f (range_with_len 0 (n + 1)) ≡ map f (range_with_len 0 n) ++ f n ∷ []
given_more f n = map-range_with_len_more f 0 n n (omega arith)

same_from : {X : Type 0} (f g : ℕ → X) (a n : ℕ) → ((k : ℕ) → a ≤ k → k < a + n → f k ≡ g k) → map f (range_with_len a n) ≡ map g (range_with_len a n)
same_from f g a zero h = refl
same_from {X} f g a (suc n) h =
    ap (λ (x : X). x ∷ map f (range_with_len (a + 1) n)) (h a (omega arith) (omega arith))
    ∙ ap (λ (xs : List X). g a ∷ xs) (same_from f g (a + 1) n (λ k l u. h k (omega arith) (omega arith)))

-- equal where they are equal below n
pub same_given : {X : Type 0} (f g : ℕ → X) (n : ℕ) → ((k : ℕ) → k < n → f k ≡ g k) → map f (range_with_len 0 n) ≡ map g (range_with_len 0 n)
same_given f g n h = same_from f g 0 n (λ k l u. h k (omega arith))

always_from : {X : Type 0} (x : X) (a n : ℕ) → replicate n x ≡ map (λ (k : ℕ). x) (range_with_len a n)
always_from x a zero = refl
always_from {X} x a (suc n) = ap (λ (xs : List X). x ∷ xs) (always_from x (a + 1) n)

pub always : {X : Type 0} (x : X) (n : ℕ) → replicate n x ≡ map (λ (k : ℕ). x) (range_with_len 0 n)
always x n = always_from x 0 n

pub filled_at : {X : Type 0} (x : X) (n k : ℕ) → k < n → slice_get (replicate n x) k ≡ Some x
filled_at x zero k l = absurd (omega arith)
filled_at x (suc n) zero l = refl
filled_at x (suc n) (suc k) l = filled_at x n k (omega arith)
