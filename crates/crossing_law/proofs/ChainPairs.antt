-- The pairs of a chain, in order.
use Rattle.std.proofs.Common.{◌≡◌, ℕ, zero, suc, ◌+◌, ◌/◌, ◌%◌, ◌<◌, ◌≤◌, true, ◌&&◌, ltb, leb, List, [], ◌∷◌, length, ap, arith, get_or}
use Rattle.std.specs.Prelude.{◌==◌}
use Rattle.std.proofs.lemmas.Bool.{and_parts, ltb-true, leb-true, eqb-true}
use Rattle.std.proofs.lemmas.Option.{get_or_from_slice_get}
use Rattle.zero_one_rows.specs.Chains.{rises, is_length, is_chain, pairs_of}
use Rattle.zero_one_rows.proofs.Pairs.{pairs_long, nth_pair}
use Rattle.crossing_law.proofs.Worlds.{Pair, IsChainOf}

-- each number of a rising row is in range, and above those before it
rise_from : (low end : ℕ) (xs : List ℕ) (i : ℕ) → rises low end xs ≡ true → i < length xs → low ≤ get_or xs i 0
rise_from low end [] i h lt = absurd (omega arith)
rise_from low end (x ∷ xs) zero h lt = leb-true _ _ (and_parts (leb low x) (ltb x end && rises (suc x) end xs) h).0
rise_from low end (x ∷ xs) (suc i) h lt =
    let p = and_parts (leb low x) (ltb x end && rises (suc x) end xs) h in
    let q = and_parts (ltb x end) (rises (suc x) end xs) p.1 in
    omega (arith, leb-true _ _ p.0, rise_from (suc x) end xs i q.1 (omega arith))

pub rise_within : (low end : ℕ) (xs : List ℕ) (i : ℕ) → rises low end xs ≡ true → i < length xs → get_or xs i 0 < end
rise_within low end [] i h lt = absurd (omega arith)
rise_within low end (x ∷ xs) zero h lt = ltb-true _ _ (and_parts (ltb x end) (rises (suc x) end xs) (and_parts (leb low x) (ltb x end && rises (suc x) end xs) h).1).0
rise_within low end (x ∷ xs) (suc i) h lt = rise_within (suc x) end xs i (and_parts (ltb x end) (rises (suc x) end xs) (and_parts (leb low x) (ltb x end && rises (suc x) end xs) h).1).1 (omega arith)

pub rise_above : (low end : ℕ) (xs : List ℕ) (i j : ℕ) → rises low end xs ≡ true → i < j → j < length xs → get_or xs i 0 < get_or xs j 0
rise_above low end [] i j h lt l = absurd (omega arith)
rise_above low end (x ∷ xs) i zero h lt l = absurd (omega arith)
rise_above low end (x ∷ xs) zero (suc j) h lt l = omega (arith, rise_from (suc x) end xs j (and_parts (ltb x end) (rises (suc x) end xs) (and_parts (leb low x) (ltb x end && rises (suc x) end xs) h).1).1 (omega arith))
rise_above low end (x ∷ xs) (suc i) (suc j) h lt l = rise_above (suc x) end xs i j (and_parts (ltb x end) (rises (suc x) end xs) (and_parts (leb low x) (ltb x end && rises (suc x) end xs) h).1).1 (omega arith) (omega arith)

-- the k-th pair
abbrev pub pair_of : List ℕ → ℕ → Pair
pair_of c k = record { load = (get_or (pairs_of c) k (0, 0)).0; dest = (get_or (pairs_of c) k (0, 0)).1 }

pair_is : (c : List ℕ) (k : ℕ) → k < length (pairs_of c) → get_or (pairs_of c) k (0, 0) ≡ (get_or c k 0, get_or c (length c / 2 + k) 0)
pair_is c k lt = get_or_from_slice_get (pairs_of c) k _ (0, 0) (nth_pair c k lt)

pub chain_pairs : (calls : ℕ) (c : List ℕ) → is_chain calls c ≡ true → IsChainOf calls (length (pairs_of c)) (pair_of c)
chain_pairs calls c h =
    let p = and_parts (rises 0 (calls + 1) c) (is_length (length c)) h in
    let q = and_parts (length c % 2 == 0) (leb 4 (length c)) p.1 in
    let even : length c % 2 ≡ 0 = eqb-true _ _ q.0 in
    let long : 4 ≤ length c = leb-true _ _ q.1 in
    let half : length (pairs_of c) ≡ length c / 2 = pairs_long c in
    let load : (k : ℕ) → k < length (pairs_of c) → (pair_of c k).load ≡ get_or c k 0 = λ k lt. ap (λ (z : ℕ × ℕ). z.0) (pair_is c k lt) in
    let dest : (k : ℕ) → k < length (pairs_of c) → (pair_of c k).dest ≡ get_or c (length c / 2 + k) 0 = λ k lt. ap (λ (z : ℕ × ℕ). z.1) (pair_is c k lt) in
    record {
      two = omega arith;
      loads = λ k l lt lm. omega (arith, load k (omega arith), load l lm, rise_above 0 (calls + 1) c k l p.0 lt (omega arith));
      dests = λ k l lt lm. omega (arith, dest k (omega arith), dest l lm, rise_above 0 (calls + 1) c (length c / 2 + k) (length c / 2 + l) p.0 (omega arith) (omega arith));
      between = λ k l lk ll. omega (arith, load k lk, dest l ll, rise_above 0 (calls + 1) c k (length c / 2 + l) p.0 (omega arith) (omega arith));
      within = λ k lt. omega (arith, dest k lt, rise_within 0 (calls + 1) c (length c / 2 + k) p.0 (omega arith));
    }
