-- Sums over permutations, over filtered lists, and lists in order.
use Rattle.std.proofs.Common.{◌≡◌, ℕ, zero, suc, ◌≤◌, ◌<◌, ◌+◌, Bool, true, false, cond, List, [], ◌∷◌, ◌++◌, length, ℤ, pos, negsuc, ◌+ℤ◌, ◌-ℤ◌, refl, sym, ◌∙◌, ap, arith}
use Rattle.std.specs.Prelude.{filter, sum_by, slice_index_or, All, ◌&&◌}
use Rattle.std.specs.List.{range_with_len}
use Rattle.std.specs.List.Sorted.{IsPermutation, IsNonDecreasingBy}
use Rattle.std.proofs.lemmas.List.Sums.{sum_by-cons}
use Rattle.std.proofs.lemmas.List.Sorted.{sum_by-IsPermutation}
use borrow.Author.Differences.{ints}
use Rattle.proof_trees.specs.Program.{sum_to, where_set}
use Rattle.stow_data.proofs.Members.{Member, range-more, range_at}
use Rattle.stow_data.proofs.Distinct.{Each, each_at, each_from}
use Rattle.zero_one_rows.proofs.VariableList.{filter_at, get_member, member_get}
use Rattle.model_bridge.proofs.Match.{total, total_append, picked, total_picked}
use Rattle.model_bridge.proofs.Sums.{same_sum}
use Rattle.model_bridge.proofs.Sorting.{Rising}
use Rattle.model_bridge.proofs.Walk.{IsBag}

-- how far above, and below, 0
abbrev up : ℤ → ℕ
up (pos n) = n
up (negsuc n) = 0

abbrev down : ℤ → ℕ
down (pos n) = 0
down (negsuc n) = suc n

parts : (z : ℤ) → z ≡ pos (up z) -ℤ pos (down z)
parts (pos n) = omega (arith, ints)
parts (negsuc n) = omega (arith, ints)

total_parts : (w : ℕ → ℤ) (xs : List ℕ) → total w xs ≡ pos (sum_by (λ x. up (w x)) xs) -ℤ pos (sum_by (λ x. down (w x)) xs)
total_parts w [] = omega (arith, ints)
total_parts w (x ∷ xs) = omega (arith, ints, parts (w x), total_parts w xs, sum_by-cons (λ y. up (w y)) x xs, sum_by-cons (λ y. down (w y)) x xs)

pub permuted : (xs ys : List ℕ) → IsPermutation xs ys → IsBag ys xs
permuted xs ys p w = omega (arith, ints, total_parts w xs, total_parts w ys, sum_by-IsPermutation (λ x. up (w x)) xs ys p, sum_by-IsPermutation (λ x. down (w x)) xs ys p)

kept_one : (b : Bool) (x : ℕ) (xs : List ℕ) (w : ℕ → ℤ) → total w (cond b (x ∷ xs) xs) ≡ where_set b (w x) +ℤ total w xs
kept_one true x xs w = refl
kept_one false x xs w = omega (arith, ints)

pub total_filter : (t : ℕ → Bool) (w : ℕ → ℤ) (xs : List ℕ) → total w (filter t xs) ≡ total (λ x. where_set (t x) (w x)) xs
total_filter t w [] = refl
total_filter t w (x ∷ xs) = omega (arith, ints, kept_one (t x) x (filter t xs) w, total_filter t w xs)

pub total_range : (n : ℕ) (w : ℕ → ℤ) → total w (range_with_len 0 n) ≡ sum_to n w
total_range zero w = refl
total_range (suc n) w =
    let a : range_with_len 0 (suc n) ≡ range_with_len 0 n ++ n ∷ [] = ap (range_with_len 0) (let z : suc n ≡ n + 1 = omega arith in z) ∙ range-more 0 n ∙ ap (λ (k : ℕ). range_with_len 0 n ++ k ∷ []) (let z : 0 + n ≡ n = omega arith in z) in
    let b = total_append w (range_with_len 0 n) (n ∷ []) in
    ap (total w) a ∙ omega (arith, ints, b, total_range n w)

-- a list of the numbers below n that pass is a bag of them
pub listed_bag : (t : ℕ → Bool) (n : ℕ) (w : ℕ → ℤ) → total w (filter t (range_with_len 0 n)) ≡ sum_to n (λ v. where_set (t v) (w v))
listed_bag t n w = total_filter t w (range_with_len 0 n) ∙ total_range n (λ v. where_set (t v) (w v))

pub listed_picked : (t : ℕ → Bool) (n : ℕ) → IsBag (filter t (range_with_len 0 n)) (picked t n)
listed_picked t n w = listed_bag t n w ∙ sym (total_picked t n w)

both : (a b : Bool) (z : ℤ) → where_set a (where_set b z) ≡ where_set (a && b) z
both true b z = refl
both false b z = refl

pub twice_picked : (t q : ℕ → Bool) (n : ℕ) → IsBag (filter q (filter t (range_with_len 0 n))) (picked (λ v. t v && q v) n)
twice_picked t q n w =
    total_filter q w (filter t (range_with_len 0 n)) ∙ listed_bag t n (λ v. where_set (q v) (w v))
    ∙ same_sum n (λ v. where_set (t v) (where_set (q v) (w v))) (λ v. where_set (t v && q v) (w v)) (λ v l. both (t v) (q v) (w v))
    ∙ sym (total_picked (λ v. t v && q v) n w)

pub each_listed : (t : ℕ → Bool) (n : ℕ) → Each (λ v. (v < n) × (t v ≡ true)) (filter t (range_with_len 0 n))
each_listed t n = each_from _ (filter t (range_with_len 0 n)) (λ v h.
    let f = filter_at t (range_with_len 0 n) v h in
    let r = range_at 0 n v f.0 in
    let low = r.1 in
    (omega (arith, low), f.1))

pub all_from : {X : Type 0} (P Q : X → Type 0) (xs : List X) → ((x : X) → P x → Q x) → Each P xs → All Q xs
all_from P Q xs h each k d l = h (slice_index_or xs k d) (each_at P xs (slice_index_or xs k d) each (get_member xs k d l))

-- in order by a key, and by one that is equal on the list
rising_tail : (n : ℕ → ℕ) (x : ℕ) (xs : List ℕ) → IsNonDecreasingBy n (x ∷ xs) → IsNonDecreasingBy n xs
rising_tail n x xs up i j d l k = up (suc i) (suc j) d (omega (arith, l)) (omega (arith, k))

first_low : (n : ℕ → ℕ) (x : ℕ) (xs : List ℕ) → IsNonDecreasingBy n (x ∷ xs) → (y : ℕ) → Member y xs → n x ≤ n y
first_low n x xs up y h = go (member_get xs y x h)
  where
    go : (k : ℕ) × (k < length xs) × (slice_index_or xs k x ≡ y) → n x ≤ n y
    go r = let a : n x ≤ n (slice_index_or xs r.0 x) = up 0 (suc r.0) x (omega arith) (let l = r.1 in omega (arith, l)) in let e : n (slice_index_or xs r.0 x) ≡ n y = ap n r.2 in omega (arith, a, e)

pub rising_from : (n k : ℕ → ℕ) (P : ℕ → Type 0) → ((x : ℕ) → P x → n x ≡ k x) → (xs : List ℕ) → Each P xs → IsNonDecreasingBy n xs → Rising k xs
rising_from n k P same [] each up = tt
rising_from n k P same (x ∷ xs) each up = (
  each_from _ xs (λ y h. let a = first_low n x xs up y h in let b = same x each.0 in let c = same y (each_at P xs y each.1 h) in omega (arith, a, b, c)),
  rising_from n k P same xs each.1 (rising_tail n x xs up),
)
