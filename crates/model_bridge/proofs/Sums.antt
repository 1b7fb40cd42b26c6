-- What a sum of terms of one sign says of its terms.
use Rattle.std.proofs.Common.{◌≡◌, ℕ, zero, suc, ◌<◌, Bool, true, false, ℤ, pos, ◌+ℤ◌, ◌-ℤ◌, ◌≤ℤ◌, arith, refl, sym, ◌∙◌, ap, ◌⊎◌, inl, inr, ⊎_elim}
use Rattle.std.proofs.lemmas.Bool.{cases_eq, cases_Bool, both_ways, or_left, or_right, or_cases}
use borrow.Author.Differences.{ints}
use Rattle.proof_trees.specs.Program.{sum_to, where_set}
use Rattle.zero_one_rows.specs.Rows.{bit}
use Rattle.model_bridge.proofs.Words.{any_below}

-- no term is above 0
abbrev pub IsLow : ℕ → (ℕ → ℤ) → Type 0
IsLow n f = (k : ℕ) → k < n → f k ≤ℤ pos 0

pub low_sum : (n : ℕ) (f : ℕ → ℤ) → IsLow n f → sum_to n f ≤ℤ pos 0
low_sum zero f h = omega (arith, ints)
low_sum (suc n) f h = omega (arith, ints, low_sum n f (λ k l. h k (omega arith)), h n (omega arith))

-- a term lifts the sum by itself alone
pub below_one : (n : ℕ) (f : ℕ → ℤ) → IsLow n f → (v : ℕ) → v < n → sum_to n f ≤ℤ f v
below_one zero f h v l = absurd (omega arith)
below_one (suc n) f h v l = ⊎_elim
    (λ (e : v ≡ n). let s = low_sum n f (λ k l. h k (omega arith)) in let t : f v ≡ f n = ap f e in omega (arith, ints))
    (λ (ne : v ≡ n → ⊥). omega (arith, ints, below_one n f (λ k l. h k (omega arith)) v (omega arith), h n (omega arith)))
    (cases_eq v n)

pub below_two : (n : ℕ) (f : ℕ → ℤ) → IsLow n f → (v w : ℕ) → v < n → w < n → (v ≡ w → ⊥) → sum_to n f ≤ℤ (f v +ℤ f w)
below_two zero f h v w l k ne = absurd (omega arith)
below_two (suc n) f h v w l k ne = ⊎_elim
    (λ (e : v ≡ n). let t : f v ≡ f n = ap f e in omega (arith, ints, below_one n f (λ k l. h k (omega arith)) w (omega arith)))
    (λ (a : v ≡ n → ⊥). ⊎_elim
    (λ (e : w ≡ n). let t : f w ≡ f n = ap f e in omega (arith, ints, below_one n f (λ k l. h k (omega arith)) v (omega arith)))
    (λ (b : w ≡ n → ⊥). omega (arith, ints, below_two n f (λ k l. h k (omega arith)) v w (omega arith) (omega arith) ne, h n (omega arith)))
    (cases_eq w n))
    (cases_eq v n)

-- a number below n passes, or none does
pub found : (n : ℕ) (t : ℕ → Bool) → ((k : ℕ) × (k < n) × (t k ≡ true)) ⊎ ((k : ℕ) → k < n → t k ≡ false)
found zero t = inr (λ k l. absurd (omega arith))
found (suc n) t = ⊎_elim
    (λ (e : t n ≡ true). inl (n, omega arith, e))
    (λ (e : t n ≡ false). ⊎_elim
    (λ (x : (k : ℕ) × (k < n) × (t k ≡ true)). inl (x.0, omega (arith, x.1), x.2))
    (λ (x : (k : ℕ) → k < n → t k ≡ false). inr (λ k l. ⊎_elim (λ (s : k ≡ n). ap t s ∙ e) (λ (ne : k ≡ n → ⊥). x k (omega arith)) (cases_eq k n)))
    (found n t))
    (cases_Bool (t n))

pub same_sum : (n : ℕ) (f g : ℕ → ℤ) → ((k : ℕ) → k < n → f k ≡ g k) → sum_to n f ≡ sum_to n g
same_sum zero f g h = refl
same_sum (suc n) f g h = omega (arith, ints, same_sum n f g (λ k l. h k (omega arith)), h n (omega arith))

pub plus_sum : (n : ℕ) (f g : ℕ → ℤ) → sum_to n (λ k. f k +ℤ g k) ≡ sum_to n f +ℤ sum_to n g
plus_sum zero f g = refl
plus_sum (suc n) f g = omega (arith, ints, plus_sum n f g)

pub minus_sum : (n : ℕ) (f g : ℕ → ℤ) → sum_to n (λ k. f k -ℤ g k) ≡ sum_to n f -ℤ sum_to n g
minus_sum zero f g = refl
minus_sum (suc n) f g = omega (arith, ints, minus_sum n f g)

pub zero_sum : (n : ℕ) → sum_to n (λ k. pos 0) ≡ pos 0
zero_sum zero = refl
zero_sum (suc n) = omega (arith, ints, zero_sum n)

pub none_sum : (n : ℕ) (f : ℕ → ℤ) → ((k : ℕ) → k < n → f k ≡ pos 0) → sum_to n f ≡ pos 0
none_sum zero f h = refl
none_sum (suc n) f h = omega (arith, ints, none_sum n f (λ k l. h k (omega arith)), h n (omega arith))

pub no_term : (t u : Bool) → (t ≡ true → u ≡ true → ⊥) → where_set t (bit u) ≡ pos 0
no_term true true h = absurd (h refl refl)
no_term true false h = refl
no_term false u h = refl

pub any_from : (n : ℕ) (t : ℕ → Bool) (k : ℕ) → k < n → t k ≡ true → any_below n t ≡ true
any_from zero t k l h = absurd (omega arith)
any_from (suc n) t k l h = ⊎_elim (λ (e : k ≡ n). or_left (t n) (any_below n t) (ap t (sym e) ∙ h)) (λ (ne : k ≡ n → ⊥). or_right (t n) (any_below n t) (any_from n t k (omega arith) h)) (cases_eq k n)

pub any_at : (n : ℕ) (t : ℕ → Bool) → any_below n t ≡ true → (k : ℕ) × (k < n) × (t k ≡ true)
any_at zero t h = absurd (both_ways false refl h)
any_at (suc n) t h = ⊎_elim (λ (x : t n ≡ true). (n, omega arith, x)) (λ (x : any_below n t ≡ true). let r = any_at n t x in (r.0, omega (arith, r.1), r.2)) (or_cases (t n) (any_below n t) h)
