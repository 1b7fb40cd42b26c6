-- A row found in the order of rows.
use Rattle.std.proofs.Common.{Bool, true, false, cond, ◌==◌, ◌≡◌, ◌≢◌, ℕ, ◌<◌, ◌≤◌, ◌+◌, List, [], ◌∷◌, arith, refl, sym, ◌∙◌, ap, subst, ◌⊎◌, inl, inr, ⊎_elim, Some, AllPairs, get_or}
use Rattle.std.specs.Prelude.{slice_get, nat_lt}
use Rattle.std.specs.Ordering.{nat_cmp, is_lt, is_some_and}
use Rattle.std.specs.Cmp.Lexicographic.{slice_partial_cmp}
use Rattle.std.proofs.lemmas.Cmp.{same_from_slice_cmp_tested}
use Rattle.std.proofs.lemmas.Bool.Decides.{nat_tests}
use Rattle.std.proofs.lemmas.Bool.{cases_lt, cases_eq, eq-eqb, ne_eqb, lt-ltb, ltb-true, false≢true}
use Rattle.std.proofs.lemmas.Option.{get_or_from_slice_get, slice_get_within, slice_get-get_or, same_Some}
use Rattle.zero_one_rows.specs.Chains.{IsBefore}
use Rattle.zero_one_rows.specs.declared.program.Row.{Row}
use Rattle.zero_one_rows.specs.Ordered.{numbers, Precedes}
use Rattle.zero_one_rows.proofs.EveryChain.{not_both}

before_trans : (xs ys zs : List ℕ) → IsBefore xs ys → IsBefore ys zs → IsBefore xs zs
before_trans [] [] zs h k = absurd h
before_trans [] (y ∷ ys) [] h k = absurd k
before_trans [] (y ∷ ys) (z ∷ zs) h k = tt
before_trans (x ∷ xs) [] zs h k = absurd h
before_trans (x ∷ xs) (y ∷ ys) [] h k = absurd k
before_trans (x ∷ xs) (y ∷ ys) (z ∷ zs) (inl a) (inl b) = inl (omega (arith, a, b))
before_trans (x ∷ xs) (y ∷ ys) (z ∷ zs) (inl a) (inr b) = inl (omega (arith, a, b.0))
before_trans (x ∷ xs) (y ∷ ys) (z ∷ zs) (inr a) (inl b) = inl (omega (arith, a.0, b))
before_trans (x ∷ xs) (y ∷ ys) (z ∷ zs) (inr a) (inr b) = inr (a.0 ∙ b.0, before_trans xs ys zs a.1 b.1)

pub precedes_trans : (r s t : Row) → Precedes r s → Precedes s t → Precedes r t
precedes_trans r s t (inl a) (inl b) = inl (omega (arith, a, b))
precedes_trans r s t (inl a) (inr b) = inl (omega (arith, a, b.0))
precedes_trans r s t (inr a) (inl b) = inl (omega (arith, a.0, b))
precedes_trans r s t (inr a) (inr b) = inr (a.0 ∙ b.0, before_trans (numbers r) (numbers s) (numbers t) a.1 b.1)

pub not_itself : (r : Row) → Precedes r r → ⊥
not_itself r (inl a) = omega (arith, a)
not_itself r (inr b) = not_both (numbers r) (numbers r) b.1 b.1

-- by index
pub in_order : (rs : List Row) (i j : ℕ) (r s : Row) → AllPairs Precedes rs → i < j → slice_get rs i ≡ Some r → slice_get rs j ≡ Some s → Precedes r s
in_order rs i j r s order l a b =
    let at : Precedes (get_or rs i r) (get_or rs j r) = order i j r l (slice_get_within rs j s b) in
    let first : get_or rs i r ≡ r = get_or_from_slice_get rs i r r a in
    let second : get_or rs j r ≡ s = get_or_from_slice_get rs j s r b in
    subst (λ (z : Row). Precedes z s) first (subst (λ (z : Row). Precedes (get_or rs i r) z) second at)

-- the rows up to a number stand before the row; those from it on don't
abbrev pub Before : List Row → ℕ → Row → Type 0
Before rs n row = (k : ℕ) (r : Row) → k < n → slice_get rs k ≡ Some r → Precedes r row

abbrev pub After : List Row → ℕ → Row → Type 0
After rs n row = (k : ℕ) (r : Row) → n ≤ k → slice_get rs k ≡ Some r → Precedes r row → ⊥

pub before_more : (rs : List Row) (n : ℕ) (s row : Row) → AllPairs Precedes rs → slice_get rs n ≡ Some s → Precedes s row → Before rs (n + 1) row
before_more rs n s row order at p k r l a = ⊎_elim
    (λ (low : k < n). precedes_trans r s row (in_order rs k n r s order low a at) p)
    (λ (high : n ≤ k). let e : k ≡ n = omega (arith, l, high) in subst (λ (z : Row). Precedes z row) (same_Some s r (sym at ∙ ap (slice_get rs) (sym e) ∙ a)) p)
    (cases_lt k n)

pub after_from : (rs : List Row) (n : ℕ) (s row : Row) → AllPairs Precedes rs → slice_get rs n ≡ Some s → (Precedes s row → ⊥) → After rs n row
after_from rs n s row order at ne k r l a q = ⊎_elim
    (λ (high : n < k). ne (precedes_trans s r row (in_order rs n k s r order high at a) q))
    (λ (low : k ≤ n). let e : k ≡ n = omega (arith, l, low) in ne (subst (λ (z : Row). Precedes z row) (same_Some r s (sym a ∙ ap (slice_get rs) e ∙ at)) q))
    (cases_lt n k)

pub absent : (rs : List Row) (n : ℕ) (row : Row) → AllPairs Precedes rs → Before rs n row → After rs n row → ((s : Row) → slice_get rs n ≡ Some s → s ≢ row) → (j : ℕ) → slice_get rs j ≢ Some row
absent rs n row order before after ne j e = ⊎_elim
    (λ (low : j < n). not_itself row (before j row low e))
    (λ (high : n ≤ j). ⊎_elim
    (λ (l : n < j). let at = slice_get-get_or rs n row (omega (arith, l, slice_get_within rs j row e)) in after n (get_or rs n row) (omega arith) at (in_order rs n j (get_or rs n row) row order l at e))
    (λ (l : j ≤ n). let same : n ≡ j = omega (arith, high, l) in ne row (ap (slice_get rs) same ∙ e) refl)
    (cases_lt n j))
    (cases_lt j n)

-- lexical order as a test
abbrev pub earlier : List ℕ → List ℕ → Bool
earlier [] [] = false
earlier [] (y ∷ ys) = true
earlier (x ∷ xs) [] = false
earlier (x ∷ xs) (y ∷ ys) = cond (x == y) (earlier xs ys) (nat_lt x y)

compared : (xs ys : List ℕ) (r : Bool) → r ≡ is_some_and is_lt (slice_partial_cmp (λ x y. Some (nat_cmp x y)) xs ys) → r ≡ earlier xs ys
compared = same_from_slice_cmp_tested nat_cmp is_lt earlier refl (λ _ _. refl) (λ _ _. refl) (λ x y xs ys o h. grind (arith, nat_tests))

earlier_before : (xs ys : List ℕ) → earlier xs ys ≡ true → IsBefore xs ys
earlier_before [] [] h = false≢true h
earlier_before [] (y ∷ ys) h = tt
earlier_before (x ∷ xs) [] h = false≢true h
earlier_before (x ∷ xs) (y ∷ ys) h = ⊎_elim
    (λ (e : x ≡ y). inr (e, earlier_before xs ys (subst (λ (b : Bool). cond b (earlier xs ys) (nat_lt x y) ≡ true) (eq-eqb x y e) h)))
    (λ (ne : x ≡ y → ⊥). inl (ltb-true x y (subst (λ (b : Bool). cond b (earlier xs ys) (nat_lt x y) ≡ true) (ne_eqb x y ne) h)))
    (cases_eq x y)

before_earlier : (xs ys : List ℕ) → IsBefore xs ys → earlier xs ys ≡ true
before_earlier [] [] h = absurd h
before_earlier [] (y ∷ ys) h = refl
before_earlier (x ∷ xs) [] h = absurd h
before_earlier (x ∷ xs) (y ∷ ys) (inl l) = rw (ne_eqb x y (λ e. omega (arith, l, e))) (lt-ltb x y l)
before_earlier (x ∷ xs) (y ∷ ys) (inr p) = rw (eq-eqb x y p.0) (before_earlier xs ys p.1)

pub earlier_is : (xs ys : List ℕ) (r : Bool) → r ≡ is_some_and is_lt (slice_partial_cmp (λ x y. Some (nat_cmp x y)) xs ys) → (r ≡ true → IsBefore xs ys) × (IsBefore xs ys → r ≡ true)
earlier_is xs ys r h = ((λ t. earlier_before xs ys (sym (compared xs ys r h) ∙ t)), (λ b. compared xs ys r h ∙ before_earlier xs ys b))
