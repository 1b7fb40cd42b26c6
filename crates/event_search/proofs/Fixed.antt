-- Full boxes, variable by variable and row by row.
use Rattle.std.proofs.Common.{◌≡◌, ◌≢◌, ℕ, zero, suc, ◌+◌, ◌<◌, ◌≤◌, ◌⊎◌, inl, inr, Bool, true, false, not, ◌&&◌, List, [], ◌∷◌, length, Option, Some, None, pos, refl, sym, ◌∙◌, ap, arith}
use Rattle.std.specs.Prelude.{slice_get}
use Rattle.std.specs.Bool.{MatchBool}
use Rattle.std.specs.Option.{is_some}
use Rattle.std.proofs.lemmas.Bool.{both_ways}
use Rattle.zero_one_rows.specs.declared.program.Row.{Row}
use Rattle.zero_one_rows.specs.Variables.{Voyage, variables}
use Rattle.zero_one_rows.specs.Rows.{whole}
use Rattle.proof_trees.specs.Program.{cost_of, where_set}
use Rattle.proof_trees.specs.Boxes.{Box, at, violated}
use Rattle.search_core.specs.Machine.{bit_of, is_fixed, fixed_below, bits, nat_of, price, breaks_none}
use Rattle.partial_plan.specs.Full.{is_one, ones}
use Rattle.dual_bound.proofs.Summing.{sum_same, same_or_other}

-- ## Variables

fixed : (o : Option Bool) → is_fixed o ≡ is_some o
fixed None = refl
fixed (Some y) = refl

free : (o : Option Bool) → is_some o ≡ false → o ≡ None
free None e = refl
free (Some y) e = absurd (both_ways false refl (sym e))

and_false : (c : Bool) → (c && false) ≡ false
and_false true = refl
and_false false = refl

pub one_free : (b : Box) (n v : ℕ) → v < n → at b v ≡ None → fixed_below n b ≡ false
one_free b zero v lt free = absurd (omega arith)
one_free b (suc n) v lt free = by (same_or_other v n) (λ below. one_free b n v below free)
  where
    by : (v ≡ n) ⊎ (v ≢ n) → (v < n → fixed_below n b ≡ false) → fixed_below (suc n) b ≡ false
    by (inl same) rest = ap (λ (o : Option Bool). is_fixed o && fixed_below n b) (ap (at b) (sym same) ∙ free)
    by (inr other) rest = ap (λ (c : Bool). is_fixed (at b n) && c) (rest (omega (arith, lt, other))) ∙ and_false (is_fixed (at b n))

-- what a test of each variable answered
pub told_fixed : (b : Box) (r : Bool) (n m : ℕ) → m ≡ n → MatchBool r ((k : ℕ) → 0 ≤ k → k < m → is_some (at b k) ≡ true) ((k : ℕ) × (0 ≤ k) × (k < m) × (is_some (at b k) ≡ false)) → r ≡ fixed_below n b
told_fixed b r n m is h = by r h
  where
    all_fixed : (i : ℕ) → ((k : ℕ) → k < i → is_some (at b k) ≡ true) → fixed_below i b ≡ true
    all_fixed zero each = refl
    all_fixed (suc i) each = ap (λ (c : Bool). c && fixed_below i b) (fixed (at b i) ∙ each i (omega arith)) ∙ all_fixed i (λ k l. each k (omega arith))

    by : (answer : Bool) → MatchBool answer ((k : ℕ) → 0 ≤ k → k < m → is_some (at b k) ≡ true) ((k : ℕ) × (0 ≤ k) × (k < m) × (is_some (at b k) ≡ false)) → answer ≡ fixed_below n b
    by true each = sym (all_fixed n (λ k l. each k (omega arith) (omega (arith, l, is))))
    by false one = sym (one_free b n one.0 (omega (arith, one.2, is)) (free (at b one.0) one.3))

-- ## Rows

module _ (m : Voyage) (b : Box) where
  all_kept : (rows : List Row) → ((k : ℕ) (r : Row) → k < length rows → slice_get rows k ≡ Some r → violated (whole m) b r ≡ false) → breaks_none (whole m) rows b ≡ true
  all_kept [] each = refl
  all_kept (r ∷ rs) each = ap (λ (c : Bool). not c && breaks_none (whole m) rs b) (each 0 r (omega arith) refl) ∙ all_kept rs (λ k q l e. each (suc k) q (omega arith) e)

  one_broken : (rows : List Row) (k : ℕ) → k < length rows → ((r : Row) → slice_get rows k ≡ Some r → violated (whole m) b r ≡ true) → breaks_none (whole m) rows b ≡ false
  one_broken [] k l broken = absurd (omega arith)
  one_broken (r ∷ rs) zero l broken = ap (λ (c : Bool). not c && breaks_none (whole m) rs b) (broken r refl)
  one_broken (r ∷ rs) (suc k) l broken = ap (λ (c : Bool). not (violated (whole m) b r) && c) (one_broken rs k (omega arith) broken) ∙ and_false (not (violated (whole m) b r))

  -- what a test of each row answered
  pub told_kept : (rows : List Row) (r : Bool) (n : ℕ) → n ≡ length rows
      → MatchBool r ((k : ℕ) × (0 ≤ k) × (k < n) × ((q : Row) → slice_get rows k ≡ Some q → true ≡ violated (whole m) b q)) ((k : ℕ) → 0 ≤ k → k < n → (q : Row) → slice_get rows k ≡ Some q → false ≡ violated (whole m) b q)
      → not r ≡ breaks_none (whole m) rows b
  told_kept rows false n is each = sym (all_kept rows (λ k q l e. sym (each k (omega arith) (omega (arith, l, is)) q e)))
  told_kept rows true n is one = sym (one_broken rows one.0 (omega (arith, one.2, is)) (λ q e. sym (one.3 q e)))

-- ## The price

pub price_is : (m : Voyage) (b : Box) (cost : ℕ) → pos cost ≡ cost_of (whole m) (ones b) → cost ≡ price (whole m) b
price_is m b cost is =
    ap nat_of (is ∙ sum_same (length (variables m)) (λ v. where_set (ones b v) ((whole m).cost v)) (λ v. where_set (bits (whole m) b v) ((whole m).cost v)) (λ v lt. ap (λ (c : Bool). where_set c ((whole m).cost v)) (same (at b v))))
  where
    same : (o : Option Bool) → is_one o ≡ bit_of o
    same None = refl
    same (Some y) = refl
