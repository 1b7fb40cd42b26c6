-- Counts and sums over the numbers below n.
use Rattle.std.proofs.Common.{◌≡◌, ℕ, zero, suc, ◌+◌, ◌*◌, ◌<◌, ◌≤◌, Bool, true, false, ◌&&◌, eqb, arith, refl, ◌⊎◌, ⊎_elim, sym, subst}
use Rattle.std.proofs.lemmas.Bool.{both_ways, cases_Bool, cases_order, and_from, eq-eqb, and_parts, eqb-true}
use Rattle.crossing_law.proofs.Worlds.{total_to, count_to, one_if}

pub total_le : (n : ℕ) (f g : ℕ → ℕ) → ((v : ℕ) → v < n → f v ≤ g v) → total_to n f ≤ total_to n g
total_le zero f g h = omega arith
total_le (suc n) f g h = omega (arith, total_le n f g (λ v lt. h v (omega arith)), h n (omega arith))

pub total_zero : (n : ℕ) → total_to n (λ v. 0) ≡ 0
total_zero zero = refl
total_zero (suc n) = omega (arith, total_zero n)

pub total_add : (n : ℕ) (f g : ℕ → ℕ) → total_to n (λ v. f v + g v) ≡ total_to n f + total_to n g
total_add zero f g = refl
total_add (suc n) f g = omega (arith, total_add n f g)

pub total_const : (n c : ℕ) → total_to n (λ v. c) ≡ n * c
total_const zero c = omega arith
total_const (suc n) c = omega (arith, total_const n c)

pub total_times : (n c : ℕ) (f : ℕ → ℕ) → total_to n (λ v. c * f v) ≡ c * total_to n f
total_times zero c f = omega arith
total_times (suc n) c f = omega (arith, total_times n c f)

-- the order of two sums
pub swapped : (n m : ℕ) (f : ℕ → ℕ → ℕ) → total_to n (λ v. total_to m (λ k. f v k)) ≡ total_to m (λ k. total_to n (λ v. f v k))
swapped zero m f = sym (total_zero m)
swapped (suc n) m f = omega (arith, swapped n m f, total_add m (λ k. total_to n (λ v. f v k)) (λ k. f n k))

-- one term is at most the sum
pub term_le : (n : ℕ) (f : ℕ → ℕ) (v : ℕ) → v < n → f v ≤ total_to n f
term_le zero f v lt = absurd (omega arith)
term_le (suc n) f v lt = ⊎_elim
    (λ (e : v ≡ n). subst (λ (u : ℕ). f u ≤ total_to n f + f n) (sym e) (omega arith))
    (λ (o : (v < n) ⊎ (n < v)). ⊎_elim (λ (l : v < n). omega (arith, term_le n f v l)) (λ (g : n < v). absurd (omega arith)) o)
    (cases_order v n)

pub one_if_true : (b : Bool) → b ≡ true → one_if b ≡ 1
one_if_true true h = refl
one_if_true false h = absurd (both_ways false refl h)

pub one_if_false : (b : Bool) → b ≡ false → one_if b ≡ 0
one_if_false true h = absurd (both_ways true h refl)
one_if_false false h = refl

pub one_if_low : (b : Bool) → one_if b ≤ 1
one_if_low true = omega arith
one_if_low false = omega arith

-- something passes
pub count_one : (n : ℕ) (p : ℕ → Bool) (v : ℕ) → v < n → p v ≡ true → 1 ≤ count_to n p
count_one n p v lt h = omega (arith, term_le n (λ u. one_if (p u)) v lt, one_if_true (p v) h)

pub count_some : (n : ℕ) (p : ℕ → Bool) → 0 < count_to n p → (v : ℕ) × (v < n) × (p v ≡ true)
count_some zero p h = absurd (omega arith)
count_some (suc n) p h = ⊎_elim
    (λ (e : p n ≡ true). (n, omega arith, e))
    (λ (e : p n ≡ false). let q : one_if (p n) ≡ 0 = one_if_false (p n) e in let r = count_some n p (omega arith) in (r.0, omega (arith, r.1), r.2))
    (cases_Bool (p n))

-- two numbers pass
pub count_two : (n : ℕ) (p : ℕ → Bool) (v u : ℕ) → v < u → u < n → p v ≡ true → p u ≡ true → 2 ≤ count_to n p
count_two zero p v u lt ltn hv hu = absurd (omega arith)
count_two (suc n) p v u lt ltn hv hu = ⊎_elim
    (λ (e : u ≡ n). let q : one_if (p n) ≡ 1 = one_if_true (p n) (subst (λ (k : ℕ). p k ≡ true) e hu) in omega (arith, count_one n p v (omega arith) hv))
    (λ (o : (u < n) ⊎ (n < u)). ⊎_elim (λ (l : u < n). omega (arith, count_two n p v u lt l hv hu)) (λ (g : n < u). absurd (omega arith)) o)
    (cases_order u n)

pub at_most_one : (n : ℕ) (p : ℕ → Bool) → ((v u : ℕ) → v < u → u < n → p v ≡ true → p u ≡ true → ⊥) → count_to n p ≤ 1
at_most_one zero p h = omega arith
at_most_one (suc n) p h = ⊎_elim
    (λ (e : p n ≡ true). ⊎_elim
    (λ (z : count_to n p ≡ 0). omega (arith, one_if_low (p n)))
    (λ (o : (count_to n p < 0) ⊎ (0 < count_to n p)). ⊎_elim (λ (l : count_to n p < 0). absurd (omega arith)) (λ (g : 0 < count_to n p). let r = count_some n p g in absurd (h r.0 n r.1 (omega arith) r.2 e)) o)
    (cases_order (count_to n p) 0))
    (λ (e : p n ≡ false). let q : one_if (p n) ≡ 0 = one_if_false (p n) e in omega (arith, at_most_one n p (λ v u l m. h v u l (omega arith))))
    (cases_Bool (p n))

one_if_le : (a b : Bool) → (a ≡ true → b ≡ true) → one_if a ≤ one_if b
one_if_le true true h = omega arith
one_if_le true false h = absurd (both_ways false refl (h refl))
one_if_le false b h = omega arith

pub count_le : (n : ℕ) (p q : ℕ → Bool) → ((v : ℕ) → v < n → p v ≡ true → q v ≡ true) → count_to n p ≤ count_to n q
count_le n p q h = total_le n _ _ (λ v lt. one_if_le (p v) (q v) (h v lt))

-- each that passes has one of m colours
pub by_colour : (n m : ℕ) (p : ℕ → Bool) (f : ℕ → ℕ) → ((v : ℕ) → v < n → p v ≡ true → f v < m) → count_to n p ≤ total_to m (λ k. count_to n (λ v. p v && eqb (f v) k))
by_colour n m p f h =
    let g : ℕ → ℕ → ℕ = λ v k. one_if (p v && eqb (f v) k) in
    let one : (v : ℕ) → v < n → one_if (p v) ≤ total_to m (g v) = λ v lt. ⊎_elim
    (λ (e : p v ≡ true). omega (arith, one_if_low (p v), term_le m (g v) (f v) (h v lt e), one_if_true (p v && eqb (f v) (f v)) (and_from _ _ e (eq-eqb (f v) (f v) refl))))
    (λ (e : p v ≡ false). let q : one_if (p v) ≡ 0 = one_if_false (p v) e in omega arith)
    (cases_Bool (p v)) in
    let s : total_to n (λ v. total_to m (λ k. g v k)) ≡ total_to m (λ k. total_to n (λ v. g v k)) = swapped n m g in
    let t : count_to n p ≤ total_to n (λ v. total_to m (λ k. g v k)) = total_le n _ _ one in
    omega arith

-- the colours together have at most all that pass
pub colours_le : (n m : ℕ) (p : ℕ → Bool) (f : ℕ → ℕ) → total_to m (λ k. count_to n (λ v. p v && eqb (f v) k)) ≤ count_to n p
colours_le n m p f =
    let one : (v : ℕ) → v < n → count_to m (λ k. p v && eqb (f v) k) ≤ one_if (p v) = λ v lt. ⊎_elim
    (λ (e : p v ≡ true). omega (arith, one_if_true (p v) e, at_most_one m (λ k. p v && eqb (f v) k) (λ a b l lm ha hb. let x = eqb-true _ _ (and_parts (p v) _ ha).1 in let y = eqb-true _ _ (and_parts (p v) _ hb).1 in absurd (omega (arith, x, y)))))
    (λ (e : p v ≡ false). ⊎_elim
    (λ (z : count_to m (λ k. p v && eqb (f v) k) ≡ 0). omega arith)
    (λ (o : (count_to m (λ k. p v && eqb (f v) k) < 0) ⊎ (0 < count_to m (λ k. p v && eqb (f v) k))). ⊎_elim
    (λ (l : count_to m (λ k. p v && eqb (f v) k) < 0). absurd (omega arith))
    (λ (g : 0 < count_to m (λ k. p v && eqb (f v) k)). let r = count_some m (λ k. p v && eqb (f v) k) g in absurd (both_ways (p v) e (and_parts (p v) _ r.2).0)) o)
    (cases_order (count_to m (λ k. p v && eqb (f v) k)) 0))
    (cases_Bool (p v)) in
    let s : total_to n (λ v. total_to m (λ k. one_if (p v && eqb (f v) k))) ≡ total_to m (λ k. total_to n (λ v. one_if (p v && eqb (f v) k))) = swapped n m (λ v k. one_if (p v && eqb (f v) k)) in
    let t : total_to n (λ v. total_to m (λ k. one_if (p v && eqb (f v) k))) ≤ count_to n p = total_le n _ _ one in
    omega arith
