-- The chains of all places are every chain, and each once.
use Rattle.std.proofs.Common.{◌≡◌, ℕ, zero, suc, ◌+◌, ◌-◌, ◌^◌, ◌<◌, ◌≤◌, true, false, cond, List, [], ◌∷◌, length, arith, refl, ◌⊎◌, ⊎_elim, sym, subst, ap, ◌∙◌, All, AllPairs, Contains}
use Rattle.std.specs.Prelude.{Option, Some, None, is_some, MatchOption}
use Rattle.std.proofs.lemmas.Bool.{cases_order, cases_Bool, cond-true, cond-false, both_ways}
use Rattle.std.proofs.lemmas.List.Elements.{All-nil, All-cons, All-weaker}
use Rattle.std.proofs.lemmas.List.Kept.{AllPairs-cons}
use Rattle.zero_one_rows.specs.Chains.{Rises, is_length, IsChain, EachOnce, IsBefore}
use Rattle.zero_one_rows.specs.ToCome.{row_at, chains_of}
use Rattle.zero_one_rows.proofs.Places.{row_rises, in_order, place_of}

abbrev row : ℕ → ℕ → List ℕ
row n m = row_at 0 n m

-- the row of one of the places from m on
pub record IsRowFrom (n m r : ℕ) (c : List ℕ) : Type 0 where
  pub place : ℕ
  pub low : m ≤ place
  pub high : place < m + r
  pub is : c ≡ row_at 0 n place
  pub long : is_length (length c) ≡ true

pub taken : (n r m : ℕ) → is_length (length (row n m)) ≡ true → chains_of n (suc r) m ≡ row n m ∷ chains_of n r (suc m)
taken n r m e = cond-true _ _ _ e

pub left : (n r m : ℕ) → is_length (length (row n m)) ≡ false → chains_of n (suc r) m ≡ chains_of n r (suc m)
left n r m e = cond-false _ _ _ e

later : (n r m : ℕ) (c : List ℕ) → IsRowFrom n (suc m) r c → IsRowFrom n m (suc r) c
later n r m c h = record { place = h.place; low = (let q : suc m ≤ h.place = h.low in omega arith); high = (let q : h.place < suc m + r = h.high in omega arith); is = h.is; long = h.long }

all_rows : (n r m : ℕ) → All (IsRowFrom n m r) (chains_of n r m)
all_rows n zero m = All-nil (IsRowFrom n m zero)
all_rows n (suc r) m =
    let rest : All (IsRowFrom n m (suc r)) (chains_of n r (suc m)) = All-weaker (IsRowFrom n (suc m) r) (IsRowFrom n m (suc r)) (later n r m) _ (all_rows n r (suc m)) in
    ⊎_elim
    (λ (e : is_length (length (row n m)) ≡ true). subst (λ (xs : List (List ℕ)). All (IsRowFrom n m (suc r)) xs) (sym (taken n r m e)) (All-cons (IsRowFrom n m (suc r)) (row n m) _ (record { place = m; low = omega arith; high = omega arith; is = refl; long = e }) rest))
    (λ (e : is_length (length (row n m)) ≡ false). subst (λ (xs : List (List ℕ)). All (IsRowFrom n m (suc r)) xs) (sym (left n r m e)) rest)
    (cases_Bool (is_length (length (row n m))))

each_in_order : (n r m : ℕ) → m + r ≤ 2 ^ n → AllPairs IsBefore (chains_of n r m)
each_in_order n zero m le = λ i j d lt bad. absurd (omega arith)
each_in_order n (suc r) m le =
    let rest : AllPairs IsBefore (chains_of n r (suc m)) = each_in_order n r (suc m) (omega arith) in
    ⊎_elim
    (λ (e : is_length (length (row n m)) ≡ true). subst (λ (xs : List (List ℕ)). AllPairs IsBefore xs) (sym (taken n r m e)) (AllPairs-cons IsBefore (row n m) _
    (All-weaker (IsRowFrom n (suc m) r) (λ c. IsBefore (row n m) c) (λ c h.
    let low : suc m ≤ h.place = h.low in
    let high : h.place < suc m + r = h.high in
    subst (λ (xs : List ℕ). IsBefore (row n m) xs) (sym h.is) (in_order 0 n m h.place (omega arith) (omega arith))) _ (all_rows n r (suc m))) rest))
    (λ (e : is_length (length (row n m)) ≡ false). subst (λ (xs : List (List ℕ)). AllPairs IsBefore xs) (sym (left n r m e)) rest)
    (cases_Bool (is_length (length (row n m))))

contains_first : {X : Type 0} (x : X) (xs : List X) → Contains (x ∷ xs) x
contains_first x xs = (0, omega arith, refl)

contains_later : {X : Type 0} (x y : X) (xs : List X) → Contains xs y → Contains (x ∷ xs) y
contains_later x y xs h = (suc h.0, omega (arith, h.1), h.2)

found : (n r m place : ℕ) → m ≤ place → place < m + r → is_length (length (row n place)) ≡ true → Contains (chains_of n r m) (row n place)
found n zero m place low high w = absurd (omega arith)
found n (suc r) m place low high w = ⊎_elim
    (λ (e : m ≡ place). subst (λ (z : ℕ). Contains (chains_of n (suc r) m) (row n z)) e (subst (λ (xs : List (List ℕ)). Contains xs (row n m)) (sym (taken n r m (subst (λ (z : ℕ). is_length (length (row n z)) ≡ true) (sym e) w))) (contains_first (row n m) _)))
    (λ (o : (m < place) ⊎ (place < m)). ⊎_elim
    (λ (l : m < place).
    let rest = found n r (suc m) place (omega arith) (omega arith) w in
    ⊎_elim
    (λ (e : is_length (length (row n m)) ≡ true). subst (λ (xs : List (List ℕ)). Contains xs (row n place)) (sym (taken n r m e)) (contains_later (row n m) (row n place) _ rest))
    (λ (e : is_length (length (row n m)) ≡ false). subst (λ (xs : List (List ℕ)). Contains xs (row n place)) (sym (left n r m e)) rest)
    (cases_Bool (is_length (length (row n m)))))
    (λ (g : place < m). absurd (omega arith)) o)
    (cases_order m place)

pub each_once : (calls : ℕ) → EachOnce calls (chains_of (calls + 1) (2 ^ (calls + 1) - 0) 0)
each_once calls = let e : 2 ^ (calls + 1) - 0 ≡ 2 ^ (calls + 1) = omega arith in subst (λ (r : ℕ). EachOnce calls (chains_of (calls + 1) r 0)) (sym e) (record {
  only = All-weaker (IsRowFrom (calls + 1) 0 (2 ^ (calls + 1))) (IsChain calls) (λ c h. record { rises = subst (λ (xs : List ℕ). Rises 0 (calls + 1) xs) (sym h.is) (rises_to (calls + 1) h.place); long = h.long }) _ (all_rows (calls + 1) (2 ^ (calls + 1)) 0);
  every = λ c h. let r = place_of 0 (calls + 1) c (subst (λ (z : ℕ). Rises 0 z c) (let q : calls + 1 ≡ 0 + (calls + 1) = omega arith in q) h.rises) in subst (λ (xs : List ℕ). Contains (chains_of (calls + 1) (2 ^ (calls + 1)) 0) xs) r.2 (found (calls + 1) (2 ^ (calls + 1)) 0 r.0 (omega arith) (omega (arith, r.1)) (subst (λ (xs : List ℕ). is_length (length xs) ≡ true) (sym r.2) h.long));
  in_order = each_in_order (calls + 1) (2 ^ (calls + 1)) 0 (omega arith);
})
  where
    rises_to : (n m : ℕ) → Rises 0 n (row_at 0 n m)
    rises_to n m = subst (λ (z : ℕ). Rises 0 z (row_at 0 n m)) (let q : 0 + n ≡ n = omega arith in q) (row_rises 0 n m)

-- one place further
next_place : (n m : ℕ) → m < 2 ^ n → chains_of n (2 ^ n - m) m ≡ cond (is_length (length (row n m))) (row n m ∷ chains_of n (2 ^ n - (m + 1)) (m + 1)) (chains_of n (2 ^ n - (m + 1)) (m + 1))
next_place n m lt =
    let e : 2 ^ n - m ≡ suc (2 ^ n - (m + 1)) = omega arith in
    let f : suc m ≡ m + 1 = omega arith in
    ap (λ (r : ℕ). chains_of n r m) e ∙ ap (λ (k : ℕ). cond (is_length (length (row n m))) (row n m ∷ chains_of n (2 ^ n - (m + 1)) k) (chains_of n (2 ^ n - (m + 1)) k)) f

pub step_none : (n m : ℕ) (o : Option (List ℕ)) → m < 2 ^ n → MatchOption o (is_length (length (row n m)) ≡ false) (λ c. (c ≡ row n m) × (is_length (length (row n m)) ≡ true)) → is_some o ≡ false → chains_of n (2 ^ n - m) m ≡ chains_of n (2 ^ n - (m + 1)) (m + 1)
step_none n m None lt h e = next_place n m lt ∙ cond-false _ _ _ h
step_none n m (Some c) lt h e = absurd (both_ways true e refl)

pub step_some : (n m : ℕ) (o : Option (List ℕ)) (total : List (List ℕ)) → m < 2 ^ n → MatchOption o (is_length (length (row n m)) ≡ false) (λ c. (c ≡ row n m) × (is_length (length (row n m)) ≡ true)) → is_some o ≡ true → chains_of n (2 ^ n - m) m ≡ total
    → MatchOption o ((total ≡ []) × (chains_of n (2 ^ n - (m + 1)) (m + 1) ≡ [])) (λ c. total ≡ c ∷ chains_of n (2 ^ n - (m + 1)) (m + 1))
step_some n m None total lt h e t = absurd (both_ways false refl e)
step_some n m (Some c) total lt h e t = sym t ∙ next_place n m lt ∙ cond-true _ _ _ h.1 ∙ ap (λ (x : List ℕ). x ∷ chains_of n (2 ^ n - (m + 1)) (m + 1)) (sym h.0)
