-- The variables in which a row has a coefficient other than 0.
use Rattle.std.proofs.Common.{◌≡◌, ◌≢◌, ℕ, zero, suc, ◌<◌, ◌⊎◌, inl, inr, Bool, true, false, List, [], ◌∷◌, length, get_or, Option, Some, None, ℤ, pos, negsuc, ◌↔◌, arith, refl, ◌∙◌, ap}
use Rattle.std.specs.Prelude.{nat_eq, Contains}
use Rattle.std.specs.List.{list_any}
use borrow.Author.Differences.{ints}
use Rattle.std.proofs.lemmas.List.Folds.{list_any_at}
use Rattle.std.proofs.lemmas.List.Elements.{Contains-get_or}
use Rattle.proof_trees.specs.Boxes.{greatest}
use Rattle.zero_one_rows.specs.declared.program.Row.{Row}
use Rattle.zero_one_rows.specs.Variables.{Voyage, variables}
use Rattle.zero_one_rows.specs.Rows.{whole}
use Rattle.zero_one_model.specs.Indexed.{Touches}
use Rattle.row_matrix.proofs.Summing.{equal}

pub zero_or_other : (z : ℤ) → (z ≡ pos 0) ⊎ (z ≢ pos 0)
zero_or_other (pos zero) = inl refl
zero_or_other (pos (suc n)) = inr (λ e. omega (arith, ints))
zero_or_other (negsuc n) = inr (λ e. omega (arith, ints))

pub greatest_none : (o : Option Bool) → greatest o (pos 0) ≡ pos 0
greatest_none None = refl
greatest_none (Some true) = refl
greatest_none (Some false) = refl

module _ (m : Voyage) (r : Row) (xs : List ℕ) (each : (x : ℕ) → Contains xs x ↔ Touches m r x) where
  pub all_inside : (k d : ℕ) → k < length xs → get_or xs k d < length (variables m)
  all_inside k d lt = ((each (get_or xs k d)).0 (Contains-get_or xs k d lt)).inside

  pub one_inside : (k x : ℕ) → k < length xs → x ≡ get_or xs k 0 → x < length (variables m)
  one_inside k x lt e = let h : get_or xs k 0 < length (variables m) = all_inside k 0 lt in omega arith

  pub coef_none : (whole m).has r ≡ true → (v : ℕ) → v < length (variables m) → list_any (nat_eq v) xs ≡ false → (whole m).coef r v ≡ pos 0
  coef_none has v lt e = by (zero_or_other ((whole m).coef r v))
    where
      by : ((whole m).coef r v ≡ pos 0) ⊎ ((whole m).coef r v ≢ pos 0) → (whole m).coef r v ≡ pos 0
      by (inl none) = none
      by (inr other) =
          let c = (each v).1 (record { has = has; inside = lt; other = other }) in
          let t : list_any (nat_eq v) xs ≡ true = list_any_at (nat_eq v) xs c.0 v c.1 (ap (λ (w : ℕ). nat_eq v w) c.2 ∙ equal v) in
          absurd (grind arith)

pub brings_none : (o : Option Bool) (z : ℤ) → z ≡ pos 0 → greatest o z ≡ pos 0
brings_none o z e = ap (greatest o) e ∙ greatest_none o

pub read : {X : Type 0} (xs : List X) (i : ℕ) (x d : X) → i < length xs → x ≡ get_or xs i x → x ≡ get_or xs i d
read [] i x d lt e = absurd (omega arith)
read (y ∷ xs) zero x d lt e = e
read (y ∷ xs) (suc i) x d lt e = read xs i x d (omega arith) e
