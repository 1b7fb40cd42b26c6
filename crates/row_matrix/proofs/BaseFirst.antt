-- Base rows stand first among all rows.
use Rattle.std.proofs.Common.{◌≡◌, ℕ, ◌<◌, true, List, ◌++◌, Some, length, length-append, get_or, arith, refl, sym, ◌∙◌, ap}
use Rattle.std.specs.Prelude.{slice_get}
use Rattle.std.proofs.Math.ListN.{get_or-append}
use Rattle.std.proofs.lemmas.Option.{get_or_from_slice_get, slice_get-get_or}
use Rattle.zero_one_rows.specs.declared.program.Row.{Row}
use Rattle.zero_one_rows.specs.Variables.{Voyage}
use Rattle.zero_one_rows.specs.Rows.{base}
use Rattle.zero_one_rows.specs.Counted.{all_rows, base_rows, cross_rows, row_lists, rows_in}
use Rattle.zero_one_rows.specs.Ordered.{ListsBaseRows}

base_first : (m : Voyage) → all_rows m ≡ base_rows m ++ cross_rows (row_lists m)
unfolding rows_in
base_first m = refl

pub base_within : (m : Voyage) (k : ℕ) → k < length (base_rows m) → k < length (all_rows m)
base_within m k lt = omega (arith, ap (λ (rs : List Row). length rs) (base_first m) ∙ length-append (base_rows m) (cross_rows (row_lists m)))

pub base_place : (m : Voyage) (k : ℕ) (r : Row) → k < length (base_rows m) → slice_get (all_rows m) k ≡ Some r → slice_get (base_rows m) k ≡ Some r
base_place m k r lt e =
    let g : get_or (base_rows m) k r ≡ r = sym (get_or-append (base_rows m) (cross_rows (row_lists m)) r k lt) ∙ sym (ap (λ (rs : List Row). get_or rs k r) (base_first m)) ∙ get_or_from_slice_get (all_rows m) k r r e in
    slice_get-get_or (base_rows m) k r lt ∙ ap (λ (s : Row). Some s) g

pub base_has : (m : Voyage) (k : ℕ) (r : Row) → ListsBaseRows → k < length (base_rows m) → slice_get (base_rows m) k ≡ Some r → (base m).has r ≡ true
base_has m k r lists lt e = (lists m r).0 (k, lt, get_or_from_slice_get (base_rows m) k r r e)
