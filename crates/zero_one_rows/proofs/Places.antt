-- Rows of numbers and their places.
use Rattle.std.proofs.Common.{◌≡◌, ℕ, zero, suc, ◌+◌, ◌-◌, ◌*◌, ◌/◌, ◌^◌, ◌<◌, ◌≤◌, List, [], ◌∷◌, ◌++◌, arith, refl, ◌⊎◌, inl, inr, ⊎_elim, sym, subst, ap, ◌∙◌, append_assoc}
use Rattle.std.proofs.lemmas.Bool.{cases_lt, cases_order, eq-eqb, cond-true, cond-false, ne_eqb, le-leb, lt-leb}
use Rattle.std.proofs.lemmas.Nat.{pow_pos}
use Rattle.std.proofs.Math.Nat.{pow-suc}
use Rattle.zero_one_rows.specs.Chains.{Rises, IsBefore}
use Rattle.zero_one_rows.specs.ToCome.{row_at}

-- the three kinds of place
zero_row : (k n i : ℕ) → i ≡ 0 → row_at k n i ≡ []
zero_row k zero i e = refl
zero_row k (suc n) i e = cond-true _ _ _ (eq-eqb i 0 e)

low_row : (k n i : ℕ) → 0 < i → i ≤ 2 ^ n → row_at k (suc n) i ≡ k ∷ row_at (k + 1) n (i - 1)
low_row k n i p le = cond-false _ _ _ (ne_eqb i 0 (λ e. omega (arith, e))) ∙ cond-true _ _ _ (le-leb i (2 ^ n) le)

high_row : (k n i : ℕ) → 2 ^ n < i → row_at k (suc n) i ≡ row_at (k + 1) n (i - 2 ^ n)
high_row k n i lt = cond-false _ _ _ (ne_eqb i 0 (λ e. omega (arith, e))) ∙ cond-false _ _ _ (lt-leb i (2 ^ n) lt)

data Kind (n i : ℕ) : Type 0 where
  is_zero : i ≡ 0 → Kind n i
  is_low : 0 < i → i ≤ 2 ^ n → Kind n i
  is_high : 2 ^ n < i → Kind n i

kind_of : (n i : ℕ) → Kind n i
kind_of n i = ⊎_elim (λ (p : 0 < i). ⊎_elim (λ (h : 2 ^ n < i). is_high h) (λ (h : i ≤ 2 ^ n). is_low p h) (cases_lt (2 ^ n) i)) (λ (z : i ≤ 0). is_zero (omega arith)) (cases_lt 0 i)

pub rises_lower : (a b e : ℕ) (xs : List ℕ) → b ≤ a → Rises a e xs → Rises b e xs
rises_lower a b e [] le h = tt
rises_lower a b e (x ∷ xs) le h = (omega (arith, h.0), h.1, h.2)

pub row_rises : (k n i : ℕ) → Rises k (k + n) (row_at k n i)
row_rises k zero i = tt
row_rises k (suc n) i = go (kind_of n i) (row_rises (k + 1) n (i - 1)) (row_rises (k + 1) n (i - 2 ^ n))
  where
    e : (k + 1) + n ≡ k + suc n
    e = omega arith

    go : Kind n i → Rises (k + 1) ((k + 1) + n) (row_at (k + 1) n (i - 1)) → Rises (k + 1) ((k + 1) + n) (row_at (k + 1) n (i - 2 ^ n)) → Rises k (k + suc n) (row_at k (suc n) i)
    go (is_zero z) a b = subst (λ (xs : List ℕ). Rises k (k + suc n) xs) (sym (zero_row k (suc n) i z)) tt
    go (is_low p le) a b = subst (λ (xs : List ℕ). Rises k (k + suc n) xs) (sym (low_row k n i p le)) (omega arith, omega arith, rises_lower (k + 1) (suc k) (k + suc n) _ (omega arith) (subst (λ (z : ℕ). Rises (k + 1) z (row_at (k + 1) n (i - 1))) e a))
    go (is_high lt) a b = subst (λ (xs : List ℕ). Rises k (k + suc n) xs) (sym (high_row k n i lt)) (rises_lower (k + 1) k (k + suc n) _ (omega arith) (subst (λ (z : ℕ). Rises (k + 1) z (row_at (k + 1) n (i - 2 ^ n))) e b))

-- a row with a row before it isn't empty
pub not_empty : (k n i : ℕ) → 0 < i → i < 2 ^ n → (x : ℕ) × (xs : List ℕ) × (row_at k n i ≡ x ∷ xs)
not_empty k zero i p lt = absurd (omega arith)
not_empty k (suc n) i p lt = go (kind_of n i) (λ q l. not_empty (k + 1) n (i - 2 ^ n) q l)
  where
    go : Kind n i → (0 < i - 2 ^ n → i - 2 ^ n < 2 ^ n → (x : ℕ) × (xs : List ℕ) × (row_at (k + 1) n (i - 2 ^ n) ≡ x ∷ xs)) → (x : ℕ) × (xs : List ℕ) × (row_at k (suc n) i ≡ x ∷ xs)
    go (is_zero z) rest = absurd (omega arith)
    go (is_low q le) rest = (k, _, low_row k n i q le)
    go (is_high h) rest = let r = rest (omega arith) (omega (arith, pow-suc 2 n)) in (r.0, r.1, high_row k n i h ∙ r.2)

before_same : (k : ℕ) (xs ys : List ℕ) → IsBefore xs ys → IsBefore (k ∷ xs) (k ∷ ys)
before_same k xs ys h = inr (refl, h)

-- an earlier place has an earlier row
pub in_order : (k n i j : ℕ) → i < j → j < 2 ^ n → IsBefore (row_at k n i) (row_at k n j)
in_order k zero i j lt end = absurd (omega arith)
in_order k (suc n) i j lt end = go (kind_of n i) (kind_of n j) (λ a b l m. in_order (k + 1) n a b l m)
  where
    p : 2 ^ suc n ≡ 2 ^ n * 2
    p = pow-suc 2 n

    go : Kind n i → Kind n j → ((a b : ℕ) → a < b → b < 2 ^ n → IsBefore (row_at (k + 1) n a) (row_at (k + 1) n b)) → IsBefore (row_at k (suc n) i) (row_at k (suc n) j)
    go a (is_zero z) rest = absurd (omega arith)
    go (is_zero z) b rest = let r = not_empty k (suc n) j (omega arith) end in rw (zero_row k (suc n) i z, r.2) tt
    go (is_low q le) (is_low q2 le2) rest = rw (low_row k n i q le, low_row k n j q2 le2) (before_same k _ _ (rest (i - 1) (j - 1) (omega arith) (omega arith)))
    go (is_low q le) (is_high h) rest =
        let r = not_empty (k + 1) n (j - 2 ^ n) (omega arith) (omega (arith, p)) in
        let s : Rises (k + 1) ((k + 1) + n) (r.0 ∷ r.1) = subst (λ (xs : List ℕ). Rises (k + 1) ((k + 1) + n) xs) r.2 (row_rises (k + 1) n (j - 2 ^ n)) in
        rw (low_row k n i q le, high_row k n j h, r.2) (inl (omega (arith, s.0)))
    go (is_high h) (is_low q le) rest = absurd (omega arith)
    go (is_high h) (is_high h2) rest = rw (high_row k n i h, high_row k n j h2) (rest (i - 2 ^ n) (j - 2 ^ n) (omega arith) (omega (arith, p)))

-- each row that rises has a place
pub place_of : (k n : ℕ) (c : List ℕ) → Rises k (k + n) c → (m : ℕ) × (m < 2 ^ n) × (row_at k n m ≡ c)
place_of k n [] h = (0, pow_pos n, zero_row k n 0 refl)
place_of k zero (x ∷ xs) h = absurd (omega (arith, h.0, h.1))
place_of k (suc n) (x ∷ xs) h =
    let p : 2 ^ suc n ≡ 2 ^ n * 2 = pow-suc 2 n in
    let e : k + suc n ≡ (k + 1) + n = omega arith in
    ⊎_elim
    (λ (q : x ≡ k).
    let tail : Rises (k + 1) ((k + 1) + n) xs = subst (λ (z : ℕ). Rises (k + 1) z xs) e (rises_lower (suc x) (k + 1) (k + suc n) xs (omega arith) h.2) in
    let r = place_of (k + 1) n xs tail in
    (r.0 + 1, omega (arith, r.1), low_row k n (r.0 + 1) (omega arith) (omega (arith, r.1)) ∙ ap (λ (z : ℕ). k ∷ row_at (k + 1) n z) (let o : r.0 + 1 - 1 ≡ r.0 = omega arith in o) ∙ ap (λ (zs : List ℕ). k ∷ zs) r.2 ∙ ap (λ (z : ℕ). z ∷ xs) (sym q)))
    (λ (o : (x < k) ⊎ (k < x)). ⊎_elim
    (λ (l : x < k). absurd (omega (arith, h.0)))
    (λ (g : k < x).
    let all : Rises (k + 1) ((k + 1) + n) (x ∷ xs) = subst (λ (z : ℕ). Rises (k + 1) z (x ∷ xs)) e (omega arith, h.1, h.2) in
    let r = place_of (k + 1) n (x ∷ xs) all in
    let some : 0 < r.0 = ⊎_elim (λ (l : 0 < r.0). l) (λ (z : r.0 ≤ 0). let bad : [] ≡ x ∷ xs = sym (zero_row (k + 1) n r.0 (let y : r.0 ≡ 0 = omega arith in y)) ∙ r.2 in absurd (empty_not x xs bad)) (cases_lt 0 r.0) in
    (r.0 + 2 ^ n, omega (arith, r.1), high_row k n (r.0 + 2 ^ n) (omega arith) ∙ ap (row_at (k + 1) n) (let z : r.0 + 2 ^ n - 2 ^ n ≡ r.0 = omega arith in z) ∙ r.2)) o)
    (cases_order x k)
  where
    empty_not : (y : ℕ) (ys : List ℕ) → [] ≡ y ∷ ys → ⊥
    empty_not y ys h = cc

-- the loop's steps
pub row_done : (items total : List ℕ) (number count rest : ℕ) → number < count → items ++ row_at number (count - number) rest ≡ total → rest ≡ 0 → items ++ row_at (number + 1) (count - (number + 1)) rest ≡ total
row_done items total number count rest lt h z = ap (λ (xs : List ℕ). items ++ xs) (zero_row (number + 1) (count - (number + 1)) rest z ∙ sym (zero_row number (count - number) rest z)) ∙ h

pub row_take : (items new total : List ℕ) (number count rest : ℕ) → number < count → items ++ row_at number (count - number) rest ≡ total → 0 < rest → rest ≤ 2 ^ (count - (number + 1)) → new ≡ items ++ number ∷ [] → new ++ row_at (number + 1) (count - (number + 1)) (rest - 1) ≡ total
row_take items new total number count rest lt h p le e =
    let s : row_at number (count - number) rest ≡ number ∷ row_at (number + 1) (count - (number + 1)) (rest - 1) = ap (λ (n : ℕ). row_at number n rest) (let f : count - number ≡ suc (count - (number + 1)) = omega arith in f) ∙ low_row number (count - (number + 1)) rest p le in
    rw (e, append_assoc) (rw s at h)

pub row_skip : (items total : List ℕ) (number count rest : ℕ) → number < count → items ++ row_at number (count - number) rest ≡ total → 2 ^ (count - (number + 1)) < rest → items ++ row_at (number + 1) (count - (number + 1)) (rest - 2 ^ (count - (number + 1))) ≡ total
row_skip items total number count rest lt h g =
    let s : row_at number (count - number) rest ≡ row_at (number + 1) (count - (number + 1)) (rest - 2 ^ (count - (number + 1))) = ap (λ (n : ℕ). row_at number n rest) (let f : count - number ≡ suc (count - (number + 1)) = omega arith in f) ∙ high_row number (count - (number + 1)) rest g in
    rw s at h

pub half_step : (number count half : ℕ) → number < count → half ≡ 2 ^ (count - number) → half / 2 ≡ 2 ^ (count - (number + 1))
half_step number count half lt e =
    let f : count - number ≡ suc (count - (number + 1)) = omega arith in
    let g : 2 ^ (count - number) ≡ 2 ^ (count - (number + 1)) * 2 = ap (λ (z : ℕ). 2 ^ z) f ∙ pow-suc 2 (count - (number + 1)) in
    omega arith
