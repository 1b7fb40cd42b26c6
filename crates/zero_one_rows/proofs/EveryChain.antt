-- The list of all chains is the one list that has every chain in its order.
use Rattle.std.proofs.Common.{◌≡◌, ℕ, zero, suc, ◌<◌, ◌≤◌, ◌+◌, ◌-◌, ◌^◌, Bool, true, false, ◌&&◌, cond, List, [], ◌∷◌, arith, refl, sym, ◌∙◌, ap, inl, inr, ⊎_elim, length, subst, Contains, All}
use Rattle.std.specs.Prelude.{nat_lt, nat_le}
use Rattle.std.proofs.lemmas.Bool.{lt-ltb, ltb-true, le-leb, leb-true, false≢true}
use Rattle.std.proofs.Math.Pow.{pow_mono}
use Rattle.zero_one_rows.specs.Chains.{Rises, IsChain, EachOnce, IsBefore, rises, is_chain, is_length}
use Rattle.zero_one_rows.specs.ToCome.{chains_of, row_at}
use Rattle.zero_one_rows.proofs.EachOnce.{each_once}
use Rattle.stow_data.proofs.Members.{Member}
use Rattle.stow_data.proofs.Distinct.{each_at}
use Rattle.zero_one_rows.proofs.VariableList.{get_member, member_get}
use Rattle.zero_one_rows.specs.Counted.{all_chains}
use Rattle.zero_one_rows.proofs.Rising.{Rising, pairs_rise}

-- the order of chains is strict
pub not_both : (a b : List ℕ) → IsBefore a b → IsBefore b a → ⊥
not_both [] [] h k = h
not_both [] (y ∷ ys) h k = k
not_both (x ∷ xs) [] h k = h
not_both (x ∷ xs) (y ∷ ys) h k = ⊎_elim
    (λ (l : x < y). ⊎_elim (λ (g : y < x). omega arith) (λ (g : (y ≡ x) × IsBefore ys xs). omega (arith, g.0)) k)
    (λ (l : (x ≡ y) × IsBefore xs ys). ⊎_elim (λ (g : y < x). omega (arith, l.0)) (λ (g : (y ≡ x) × IsBefore ys xs). not_both xs ys l.1 g.1) k)
    h

-- two lists in order with the same members
same_lists : (xs ys : List (List ℕ)) → Rising IsBefore xs → Rising IsBefore ys → ((c : List ℕ) → Member c xs → Member c ys) → ((c : List ℕ) → Member c ys → Member c xs) → xs ≡ ys
same_lists [] [] a b f g = refl
same_lists [] (y ∷ ys) a b f g = absurd (g y (inl refl))
same_lists (x ∷ xs) [] a b f g = absurd (f x (inl refl))
same_lists (x ∷ xs) (y ∷ ys) a b f g =
    let first : x ≡ y = ⊎_elim (λ (e : x ≡ y). e) (λ (m : Member x ys). ⊎_elim (λ (e : y ≡ x). sym e) (λ (n : Member y xs). absurd (not_both x y (each_at (IsBefore x) xs y a.0 n) (each_at (IsBefore y) ys x b.0 m))) (g y (inl refl))) (f x (inl refl)) in
    let rest : xs ≡ ys = same_lists xs ys a.1 b.1
    (λ c m. ⊎_elim (λ (e : c ≡ y). let h : IsBefore x c = each_at (IsBefore x) xs c a.0 m in let same : c ≡ x = e ∙ sym first in absurd (not_both x c h (subst (λ (z : List ℕ). IsBefore z x) (sym same) (subst (λ (z : List ℕ). IsBefore x z) same h)))) (λ (k : Member c ys). k) (f c (inr m)))
    (λ c m. ⊎_elim (λ (e : c ≡ x). let h : IsBefore y c = each_at (IsBefore y) ys c b.0 m in let same : c ≡ y = e ∙ first in absurd (not_both y c h (subst (λ (z : List ℕ). IsBefore z y) (sym same) (subst (λ (z : List ℕ). IsBefore y z) same h)))) (λ (k : Member c xs). k) (g c (inr m))) in
    ap (λ (z : List ℕ). z ∷ xs) first ∙ ap (λ (zs : List (List ℕ)). y ∷ zs) rest

pub all_once : (n : ℕ) → EachOnce n (all_chains n)
all_once n = let e : 2 ^ (n + 1) - 0 ≡ 2 ^ (n + 1) = omega arith in subst (λ (r : ℕ). EachOnce n (chains_of (n + 1) r 0)) e (each_once n)

contains_at : (xs : List (List ℕ)) (c : List ℕ) → Contains xs c → Member c xs
contains_at xs c h = subst (λ (y : List ℕ). Member y xs) h.2 (get_member xs h.0 c h.1)

all_at : (P : List ℕ → Type 0) (xs : List (List ℕ)) (c : List ℕ) → All P xs → Member c xs → P c
all_at P xs c h m = let g = member_get xs c c m in subst P g.2 (h g.0 c g.1)

pub chain_at : (n : ℕ) (c : List ℕ) → Member c (all_chains n) → IsChain n c
chain_at n c m = all_at (IsChain n) (all_chains n) c (all_once n).only m

pub chain_from : (n : ℕ) (c : List ℕ) → IsChain n c → Member c (all_chains n)
chain_from n c h = contains_at (all_chains n) c ((all_once n).every c h)

pub chains_rise : (n : ℕ) → Rising IsBefore (all_chains n)
chains_rise n = pairs_rise IsBefore (all_chains n) (all_once n).in_order

pub chains_same : (n : ℕ) (xs : List (List ℕ)) → EachOnce n xs → xs ≡ all_chains n
chains_same n xs h = same_lists xs (all_chains n) (pairs_rise IsBefore xs h.in_order) (chains_rise n)
    (λ c m. chain_from n c (all_at (IsChain n) xs c h.only m))
    (λ c m. contains_at xs c (h.every c (chain_at n c m)))

-- chains by the truth value
both : (a b : Bool) → a ≡ true → b ≡ true → (a && b) ≡ true
both true true e f = refl
both true false e f = f
both false b e f = e

left_of : (a b : Bool) → (a && b) ≡ true → a ≡ true
left_of true b h = refl
left_of false b h = h

right_of : (a b : Bool) → (a && b) ≡ true → b ≡ true
right_of true b h = h
right_of false b h = absurd (false≢true h)

rises_from : (low end : ℕ) (c : List ℕ) → Rises low end c → rises low end c ≡ true
rises_from low end [] h = refl
rises_from low end (x ∷ xs) h = both (nat_le low x) _ (le-leb low x h.0) (both (nat_lt x end) _ (lt-ltb x end h.1) (rises_from (suc x) end xs h.2))

rises_at : (low end : ℕ) (c : List ℕ) → rises low end c ≡ true → Rises low end c
rises_at low end [] h = tt
rises_at low end (x ∷ xs) h = (
  leb-true low x (left_of (nat_le low x) _ h),
  ltb-true x end (left_of (nat_lt x end) _ (right_of (nat_le low x) _ h)),
  rises_at (suc x) end xs (right_of (nat_lt x end) _ (right_of (nat_le low x) _ h)),
)

pub test_chain : (n : ℕ) (c : List ℕ) → IsChain n c → is_chain n c ≡ true
test_chain n c h = both (rises 0 (n + 1) c) (is_length (length c)) (rises_from 0 (n + 1) c h.rises) h.long

pub chain_by_test : (n : ℕ) (c : List ℕ) → is_chain n c ≡ true → IsChain n c
chain_by_test n c h = record { rises = rises_at 0 (n + 1) c (left_of (rises 0 (n + 1) c) (is_length (length c)) h); long = right_of (rises 0 (n + 1) c) (is_length (length c)) h }

-- no more chains than rising rows
rows_few : (n r i : ℕ) → length (chains_of n r i) ≤ r
rows_few n zero i = omega arith
rows_few n (suc r) i = go (is_length (length (row_at 0 n i))) (rows_few n r (suc i))
  where
    go : (b : Bool) → length (chains_of n r (suc i)) ≤ r → length (cond b (row_at 0 n i ∷ chains_of n r (suc i)) (chains_of n r (suc i))) ≤ suc r
    go true h = omega arith
    go false h = omega arith

sets_few : (n : ℕ) → n ≤ 12 → 2 ^ (n + 1) ≤ 8192
sets_few n h = let a : 2 ^ (n + 1) ≤ 2 ^ 13 = pow_mono {i = n + 1} {j = 13} (omega (arith, h)) in omega (arith, a)

pub chains_few : (n : ℕ) → n ≤ 12 → length (all_chains n) ≤ 8192
chains_few n h = let a = rows_few (n + 1) (2 ^ (n + 1)) 0 in let b = sets_few n h in omega (arith, a, b)
