-- Rows differ where one precedes the other, and the numbers of rows.
use Rattle.std.proofs.Common.{◌≡◌, ◌≢◌, ℕ, Bool, true, List, arith, refl, sym, ◌∙◌, ap, subst, ⊎_elim, Option, None, Some, false}
use Rattle.std.specs.Prelude.{MatchOption, slice_get}
use Rattle.std.proofs.lemmas.Option.{slice_get-get_or}
use Rattle.zero_one_rows.specs.declared.program.Row.{Row}
use Rattle.zero_one_rows.specs.Variables.{Voyage}
use Rattle.zero_one_rows.specs.Rows.{whole}
use Rattle.zero_one_rows.proofs.VariableList.{member_get}
use Rattle.zero_one_rows.specs.Counted.{all_rows}
use Rattle.zero_one_rows.specs.Chains.{IsBefore}
use Rattle.zero_one_rows.specs.Ordered.{Precedes, family, numbers}
use Rattle.zero_one_rows.proofs.EveryRow.{row_listed}
use Rattle.zero_one_rows.proofs.EveryChain.{not_both}

pub differ : (r s : Row) → Precedes r s → r ≢ s
differ r s h e = ⊎_elim
    (λ l. let same = ap (λ (x : Row). family x) e in omega (arith, l, same))
    (λ b. let c = subst (λ (x : Row). IsBefore (numbers r) (numbers x)) (sym e) b.1 in not_both (numbers r) (numbers r) c c)
    h

-- the number of a row that there is
pub numbered : (m : Voyage) (o : Option ℕ) (rs : List Row) (r : Row) → rs ≡ all_rows m → MatchOption o ((k : ℕ) → slice_get rs k ≢ Some r) (λ k. slice_get rs k ≡ Some r) → MatchOption o ((whole m).has r ≡ false) (λ k. slice_get (all_rows m) k ≡ Some r)
numbered m None rs r e h = go ((whole m).has r) refl
  where
    go : (b : Bool) → (whole m).has r ≡ b → (whole m).has r ≡ false
    go false k = k
    go true k =
        let at = member_get (all_rows m) r r (row_listed m r k) in
        absurd (h at.0 (ap (λ (xs : List Row). slice_get xs at.0) e ∙ slice_get-get_or (all_rows m) at.0 r at.1 ∙ ap (λ (x : Row). Some x) at.2))
numbered m (Some k) rs r e h = ap (λ (xs : List Row). slice_get xs k) (sym e) ∙ h
