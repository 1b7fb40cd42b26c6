-- A box that fixes each variable as an assignment says.
use Rattle.std.proofs.Common.{◌≡◌, ℕ, ◌<◌, ◌≤◌, ◌+◌, Bool, true, false, ℤ, pos, ◌≤ℤ◌, arith, refl, sym, ◌∙◌, ap, subst, length, length-set, Option, Some, None, ⊎_elim}
use Rattle.std.specs.Prelude.{slice_get, slice_set, slice_index_or, replicate, IsSome, int_lt}
use Rattle.std.proofs.lemmas.Bool.{cases_eq, false_from_ne_true}
use Rattle.std.proofs.lemmas.List.{length-replicate}
use Rattle.std.proofs.lemmas.Option.{get_or_from_slice_get}
use borrow.Author.Differences.{ints}
use Rattle.proof_trees.specs.Program.{Program, sum_to, where_set, cost_of, Solution}
use Rattle.proof_trees.specs.Boxes.{Box, greatest, most, violated}
use Rattle.zero_one_rows.specs.declared.program.Row.{Row}
use Rattle.zero_one_rows.specs.Variables.{Voyage, variables}
use Rattle.zero_one_rows.specs.Rows.{base, whole, IsSolution}
use Rattle.stowage_rules.proofs.Items.{slice_get-set_other, slice_get-set_same}
use Rattle.model_bridge.proofs.Sums.{same_sum}
use Rattle.model_bridge.specs.Pairs.{is_one}
use Rattle.model_bridge.specs.Sailed.{IsFull, BreaksNone}
use Rattle.model_bridge.specs.Assigned.{BreaksNoRow, Costs, IsBoxOf}
use Rattle.model_bridge.proofs.Tables.{filled_at}

not_less : (a c s : ℤ) → a ≡ s → c ≤ℤ s → int_lt a c ≡ false
not_less a c s e l = false_from_ne_true (int_lt a c) (λ h. omega (arith, ints, e, l, h))

module _ (m : Voyage) (b : Box) (x : ℕ → Bool) (long : length b ≡ length (variables m)) (fixed : (v : ℕ) → v < length (variables m) → slice_get b v ≡ Some (Some (x v))) where
  value : (v : ℕ) (d : Option Bool) → v < length (variables m) → slice_index_or b v d ≡ Some (x v)
  value v d l = get_or_from_slice_get b v (Some (x v)) d (fixed v l)

  pub full : IsFull m b
  full = record { long = long; fixed = λ v d l. subst IsSome (sym (value v d (omega (arith, l, long)))) refl }

  unbroken : (p : Program Row) → p.vars ≡ length (variables m) → Solution p x → (r : Row) → p.has r ≡ true → violated p b r ≡ false
  unbroken p vars solution r has =
      let same : most p b r ≡ sum_to p.vars (λ v. where_set (x v) (p.coef r v)) = same_sum p.vars _ _ (λ v l. ap (λ (o : Option Bool). greatest o (p.coef r v)) (value v None (omega (arith, l, vars)))) in
      not_less (most p b r) (p.rhs r) (sum_to p.vars (λ v. where_set (x v) (p.coef r v))) same (solution r has)

  pub base_rows : IsSolution m x → BreaksNone m b
  base_rows solution = unbroken (base m) refl solution

  pub rows : Solution (whole m) x → BreaksNoRow m b
  rows solution = unbroken (whole m) refl solution

  pub cost : (n : ℕ) → cost_of (base m) x ≡ pos n → Costs m b n
  cost n h = same_sum (length (variables m)) _ _ (λ v l. ap (λ (t : Bool). where_set t ((base m).cost v)) (ap is_one (value v None l))) ∙ h

-- a box whose variables below v are fixed by the test, and the others are free
pub record IsFixedTo (n : ℕ) (t : ℕ → Bool) (v : ℕ) (b : Box) : Type 0 where
  pub long : length b ≡ n
  pub fixed : (k : ℕ) → k < v → slice_get b k ≡ Some (Some (t k))
  pub free : (k : ℕ) → v ≤ k → k < n → slice_get b k ≡ Some None

pub fixed_first : (n : ℕ) (t : ℕ → Bool) (b : Box) → b ≡ replicate n None → IsFixedTo n t 0 b
fixed_first n t b is = record {
  long = ap length is ∙ length-replicate n None;
  fixed = λ k l. absurd (omega (arith, l));
  free = λ k l u. ap (λ (x : Box). slice_get x k) is ∙ filled_at None n k u;
}

pub fixed_more : (n : ℕ) (t : ℕ → Bool) (v : ℕ) (old new : Box) (one : Bool) → v < n → IsFixedTo n t v old → new ≡ slice_set old v (Some one) → one ≡ t v → IsFixedTo n t (v + 1) new
fixed_more n t v old new one low before made is = record {
  long = ap length made ∙ length-set old v (Some one) ∙ before.long;
  fixed = λ k l. ⊎_elim
      (λ (e : k ≡ v).
      subst (λ (z : ℕ). slice_get new z ≡ Some (Some (t z))) (sym e)
      (ap (λ (x : Box). slice_get x v) made ∙ slice_get-set_same old v (Some one) None (before.free v (omega arith) low) ∙ ap (λ (y : Bool). Some (Some y)) is))
      (λ (ne : k ≡ v → ⊥). ap (λ (x : Box). slice_get x k) made ∙ slice_get-set_other old v k (Some one) ne ∙ before.fixed k (omega arith))
      (cases_eq k v);
  free = λ k l u. ap (λ (x : Box). slice_get x k) made ∙ slice_get-set_other old v k (Some one) (λ e. omega arith) ∙ before.free k (omega arith) u;
}

pub fixed_all : (m : Voyage) (t : ℕ → Bool) (v : ℕ) (b : Box) → length (variables m) ≤ v → IsFixedTo (length (variables m)) t v b → IsBoxOf m t b
fixed_all m t v b all to = record { long = to.long; fixed = λ k l. to.fixed k (omega (arith, l, all)) }
