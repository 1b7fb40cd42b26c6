-- Costs without multipliers.
use Rattle.std.proofs.Common.{◌≡◌, ◌≢◌, ℕ, zero, suc, ◌+◌, ◌<◌, ◌≤◌, inl, inr, Bool, true, false, List, [], ◌∷◌, ◌++◌, Some, None, length, replicate, slice_set, All, arith, refl, ℤ, pos, ◌+ℤ◌, ◌-ℤ◌, ◌*ℤ◌, if◌then◌else◌, sym, ◌∙◌, ap, subst}
use Rattle.std.proofs.lemmas.List.{get_or-set_same, get_or-set_other}
use Rattle.std.proofs.lemmas.List.Elements.{All-push}
use Rattle.zero_one_rows.specs.Variables.{Voyage, variables}
use Rattle.proof_trees.specs.Boxes.{Box, at}
use Rattle.zero_one_rows.specs.Rows.{whole}
use Rattle.proof_trees.specs.Multipliers.{least, weighed}
use Rattle.dual_bound.specs.declared.costs.Costs.{Costs}
use Rattle.crossing_pricing.specs.Gaps.{number_at}
use Rattle.dual_bound.specs.Costs.{Priced, parts}
use Rattle.dual_bound.proofs.Summing.{sum_same, same_or_other}
use Rattle.bound_checker.specs.declared.blank.Blank.{Blank}
use Rattle.bound_checker.specs.Sums.{IsBlank, IsClean}

-- with the dual value of this box they are those of this box
pub blank_valued : (m : Voyage) (b : Box) (z : Blank) (c d : Costs) → IsBlank m b z → IsClean m c → d.reduced.items ≡ c.reduced.items → d.right ≡ pos 0 → d.value ≡ z.costs.value → Priced m b [] d
blank_valued m b z c d blank clean reduced right value = record {
  gauged = record {
    len = ap (λ (xs : List ℤ). length xs) reduced ∙ clean.1.gauged.len;
    value = value ∙ blank.here.gauged.value ∙ ap (λ (r : ℤ). r +ℤ parts m b z.costs.reduced.items) (blank.here.right ∙ sym right)
        ∙ ap (λ (p : ℤ). d.right +ℤ p) (sum_same (length (variables m)) (λ v. least (at b v) (number_at z.costs.reduced.items v)) (λ v. least (at b v) (number_at d.reduced.items v)) (λ v lt. ap (least (at b v)) (blank.here.reduced v lt ∙ sym (each v lt))));
  };
  right = right;
  reduced = each;
  small = tt;
}
  where
    each : (v : ℕ) → v < length (variables m) → number_at d.reduced.items v ≡ pos 16 *ℤ (whole m).cost v -ℤ weighed (whole m) [] v
    each v lt = ap (λ (xs : List ℤ). number_at xs v) reduced ∙ clean.1.reduced v lt

pub all_kept : (m : Voyage) (ok : Bool) (xs ys : List Costs) (c : Costs) → ys ≡ (if ok then xs ++ c ∷ [] else xs) → All (IsClean m) xs → IsClean m c → All (IsClean m) ys
all_kept m true xs ys c e all one = subst (All (IsClean m)) (sym e) (All-push (IsClean m) xs c all one)
all_kept m false xs ys c e all one = subst (All (IsClean m)) (sym e) all

-- ## The box in which each variable is 0

pub all_free : (n x : ℕ) → at (replicate n None) x ≡ None
all_free zero x = refl
all_free (suc n) zero = refl
all_free (suc n) (suc x) = all_free n x

below_other : (x v : ℕ) → x < v + 1 → x ≢ v → x < v
below_other x v below other = grind arith

-- one more variable is 0
module _ (b : Box) (v : ℕ) (lt : v < length b) where
  pub zero_more : ((x : ℕ) → x < v → at b x ≡ Some false) → (x : ℕ) → x < v + 1 → at (slice_set b v (Some false)) x ≡ Some false
  zero_more zeros x below = elim (same_or_other x v) [
    | inl e ↦ subst (λ (y : ℕ). at (slice_set b v (Some false)) y ≡ Some false) (sym e) (get_or-set_same b v (Some false) None lt)
    | inr other ↦ get_or-set_other b v x (Some false) None other ∙ zeros x (below_other x v below other)
  ]

  pub free_less : (n : ℕ) → ((x : ℕ) → v ≤ x → x < n → at b x ≡ None) → (x : ℕ) → v + 1 ≤ x → x < n → at (slice_set b v (Some false)) x ≡ None
  free_less n free x above below = get_or-set_other b v x (Some false) None (λ e. absurd (omega arith)) ∙ free x (omega arith) below
