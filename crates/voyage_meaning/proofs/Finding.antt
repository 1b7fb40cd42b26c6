-- The least number of which something holds, from parts.
use Rattle.std.specs.Prelude.{◌≡◌, ℕ, ◌<◌, ◌≤◌, ◌⊎◌, Bool, true, false, cond, nat_le, Option, Some, None}
use Rattle.std.proofs.Common.{arith, refl, ⊎_elim}
use Rattle.std.proofs.lemmas.Bool.{leb-true, leb-false}
use Rattle.voyage_meaning.specs.Refusals.{Finds}
use Rattle.voyage_meaning.specs.Stacks.{lesser}

-- of what holds of the same numbers
pub finds_same : (P Q : ℕ → Type 0) (o : Option ℕ) → ((n : ℕ) → P n → Q n) → ((n : ℕ) → Q n → P n) → Finds P o → Finds Q o
finds_same P Q None to back f = λ n q. f n (back n q)
finds_same P Q (Some m) to back f = record { holds = to m f.holds; none_below = λ k l q. f.none_below k l (back k q) }

-- of what holds where one of two things does: the lesser of both
pub finds_lesser : (P Q R : ℕ → Type 0) (a b : Option ℕ) → ((n : ℕ) → P n → R n) → ((n : ℕ) → Q n → R n) → ((n : ℕ) → R n → P n ⊎ Q n) → Finds P a → Finds Q b → Finds R (lesser a b)
finds_lesser P Q R None None from_p from_q split f g = λ n r. ⊎_elim (λ (p : P n). f n p) (λ (q : Q n). g n q) (split n r)
finds_lesser P Q R None (Some y) from_p from_q split f g = record { holds = from_q y g.holds; none_below = λ k l r. ⊎_elim (λ (p : P k). f k p) (λ (q : Q k). g.none_below k l q) (split k r) }
finds_lesser P Q R (Some x) None from_p from_q split f g = record { holds = from_p x f.holds; none_below = λ k l r. ⊎_elim (λ (p : P k). f.none_below k l p) (λ (q : Q k). g k q) (split k r) }
finds_lesser P Q R (Some x) (Some y) from_p from_q split f g = by_test (nat_le x y) (λ e. leb-true x y e) (λ e. leb-false x y e)
  where
    by_test : (t : Bool) → (t ≡ true → x ≤ y) → (t ≡ false → y < x) → Finds R (Some (cond t x y))
    by_test true low high = let l : x ≤ y = low refl in
        record { holds = from_p x f.holds; none_below = λ k m r. ⊎_elim (λ (p : P k). f.none_below k m p) (λ (q : Q k). g.none_below k (omega arith) q) (split k r) }
    by_test false low high = let l : y < x = high refl in
        record { holds = from_q y g.holds; none_below = λ k m r. ⊎_elim (λ (p : P k). f.none_below k (omega arith) p) (λ (q : Q k). g.none_below k m q) (split k r) }
