-- The variables that a box has at 1, found in order.
use Rattle.std.proofs.Common.{◌≡◌, ◌≢◌, ℕ, zero, suc, ◌+◌, ◌<◌, ◌≤◌, ◌⊎◌, inl, inr, true, List, [], ◌∷◌, ◌++◌, Some, None, All, length, arith, refl, sym, ◌∙◌, ap, subst}
use Rattle.std.specs.Prelude.{Contains}
use Rattle.std.proofs.lemmas.List.Elements.{All-append, Contains-append_left, Contains-append_right}
use Rattle.proof_trees.specs.Boxes.{Box, at}
use Rattle.partial_plan.specs.Packing.{AreOnes}
use Rattle.row_matrix.proofs.Summing.{same_or_other}

one_all : {X : Type 0} (P : X → Type 0) (x : X) → P x → All P (x ∷ [])
one_all P x h zero d lt = h
one_all P x h (suc k) d lt = absurd (omega arith)

-- of the first k variables
pub record OnesBelow (b : Box) (k : ℕ) (xs : List ℕ) : Type 0 where
  pub inside : All (λ v. v < length b) xs
  pub each : (v : ℕ) → v < k → at b v ≡ Some true → Contains xs v

pub ones_none : (b : Box) → OnesBelow b 0 []
ones_none b = record {
  inside = λ k d lt. absurd (omega arith);
  each = λ v lt e. absurd (omega arith);
}

pub ones_more : (b : Box) (k : ℕ) (xs ys : List ℕ) → k < length b → ys ≡ xs ++ k ∷ [] → OnesBelow b k xs → OnesBelow b (k + 1) ys
ones_more b k xs ys lt e h = record {
  inside = subst (λ (zs : List ℕ). All (λ v. v < length b) zs) (sym e) (All-append (λ v. v < length b) xs (k ∷ []) h.inside (one_all (λ v. v < length b) k lt));
  each = λ v v_lt one. subst (λ (zs : List ℕ). Contains zs v) (sym e) (by v one v_lt (same_or_other v k));
}
  where
    by : (v : ℕ) → at b v ≡ Some true → v < k + 1 → (v ≡ k) ⊎ (v ≢ k) → Contains (xs ++ k ∷ []) v
    by v one v_lt (inl here) = Contains-append_right xs (k ∷ []) v (0, omega arith, sym here)
    by v one v_lt (inr other) = Contains-append_left xs (k ∷ []) v (h.each v (omega arith) one)

pub ones_same : (b : Box) (k : ℕ) (xs : List ℕ) → (at b k ≡ Some true → ⊥) → OnesBelow b k xs → OnesBelow b (k + 1) xs
ones_same b k xs not h = record { inside = h.inside; each = λ v v_lt one. by v one v_lt (same_or_other v k) }
  where
    by : (v : ℕ) → at b v ≡ Some true → v < k + 1 → (v ≡ k) ⊎ (v ≢ k) → Contains xs v
    by v one v_lt (inl here) = absurd (not (ap (at b) (sym here) ∙ one))
    by v one v_lt (inr other) = h.each v (omega arith) one

past : (b : Box) (v : ℕ) → length b ≤ v → at b v ≡ None
past [] v le = refl
past (x ∷ b) zero le = absurd (omega arith)
past (x ∷ b) (suc v) le = past b v (omega arith)

below_or_past : (v n : ℕ) → (v < n) ⊎ (n ≤ v)
below_or_past v zero = inr (omega arith)
below_or_past zero (suc n) = inl (omega arith)
below_or_past (suc v) (suc n) = elim (below_or_past v n) [ inl h ↦ inl (omega arith) | inr h ↦ inr (omega arith) ]

pub ones_all : (b : Box) (k : ℕ) (xs : List ℕ) → length b ≤ k → OnesBelow b k xs → AreOnes b xs
ones_all b k xs le h = record { inside = h.inside; each = λ v one. by v one (below_or_past v k) }
  where
    by : (v : ℕ) → at b v ≡ Some true → (v < k) ⊎ (k ≤ v) → Contains xs v
    by v one (inl lt) = h.each v lt one
    by v one (inr pst) = absurd (let e : Some true ≡ None = sym one ∙ past b v (omega arith) in let bad : ⊥ = cc in bad)
