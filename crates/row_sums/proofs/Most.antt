-- The greatest value of a row is that of its sums.
use Rattle.std.proofs.Common.{◌≡◌, Bool, true, length, Option, Some, None, ℤ, pos, ◌+ℤ◌, refl, ◌∙◌, ap}
use Rattle.proof_trees.specs.Program.{sum_to, where_set}
use Rattle.proof_trees.specs.Boxes.{Box, at, greatest}
use Rattle.zero_one_rows.specs.declared.program.Row.{Row}
use Rattle.zero_one_rows.specs.declared.program.Var.{Var}
use Rattle.zero_one_rows.specs.Variables.{Voyage, variables, var, is_var}
use Rattle.zero_one_rows.specs.Rows.{coef, has}
use Rattle.zero_one_rows.specs.Listed.{ListsVariables}
use Rattle.row_sums.specs.declared.sums.Sum.{Sum}
use Rattle.row_sums.specs.declared.sums.Sign.{Sign}
use Rattle.row_sums.specs.declared.sums.Sign.TheVariants.{Plus, Minus}
use Rattle.row_sums.specs.declared.sums.Part.{Part}
use Rattle.row_sums.specs.declared.sums.Parts.{Parts}
use Rattle.row_sums.specs.Sums.{parts, holds, counts, in_sum, in_part}
use Rattle.row_sums.specs.Values.{is_one, most_of_part, most_of_second}
use Rattle.row_sums.specs.Laws.{MostBySums, in_second}
use Rattle.row_sums.proofs.Greatest.{most_at, two_at, alone_at, sum_same, sum_both, sum_less, sum_none}
use Rattle.row_sums.proofs.Rowed.{are_sums, share_none}

part_most : (m : Voyage) (b : Box) (p : Part) → sum_to (length (variables m)) (λ v. most_at (at b v) p.sign (in_sum m p.sum (var m v))) ≡ most_of_part m b p
part_most m b p = go p.sign p.sum
  where
    go : (s : Sign) (a : Sum) → sum_to (length (variables m)) (λ v. most_at (at b v) s (in_sum m a (var m v))) ≡ most_of_part m b (record { sign = s; sum = a })
    go Plus a = refl
    go Minus a = sum_less (length (variables m)) (λ v. where_set (is_one (at b v)) (in_sum m a (var m v)))

-- by one variable
abbrev second_at : Voyage → Option Bool → Option Part → Var → ℤ
second_at m o None x = pos 0
second_at m o (Some p) x = most_at o p.sign (in_sum m p.sum x)

at_var : (m : Voyage) (r : Row) (ps : Parts) → has m r ≡ true → parts m r ≡ Some ps → (o : Option Bool) (x : Var) → is_var m x ≡ true
    → greatest o (coef m r x) ≡ most_at o ps.first.sign (in_sum m ps.first.sum x) +ℤ second_at m o ps.second x
at_var m r ps h e o x v = ap (greatest o) (are_sums m r ps h e x) ∙ go ps.second refl
  where
    go : (q : Option Part) → ps.second ≡ q → greatest o (in_part m ps.first x +ℤ in_second m q x) ≡ most_at o ps.first.sign (in_sum m ps.first.sum x) +ℤ second_at m o q x
    go None f = alone_at o ps.first.sign (holds m ps.first.sum x) (counts m ps.first.sum x)
    go (Some p) f = two_at o ps.first.sign p.sign (holds m ps.first.sum x) (holds m p.sum x) (counts m ps.first.sum x) (counts m p.sum x) (share_none m r ps p h e f x v)

second_most : (m : Voyage) (b : Box) (q : Option Part) → sum_to (length (variables m)) (λ v. second_at m (at b v) q (var m v)) ≡ most_of_second m b q
second_most m b None = sum_none (length (variables m))
second_most m b (Some p) = part_most m b p

pub most_by_sums : ListsVariables → MostBySums
most_by_sums listed m r ps b h e =
    let n = length (variables m) in
    sum_same n (λ v. greatest (at b v) (coef m r (var m v))) (λ v. most_at (at b v) ps.first.sign (in_sum m ps.first.sum (var m v)) +ℤ second_at m (at b v) ps.second (var m v)) (λ v l. at_var m r ps h e (at b v) (var m v) (listed m v l).0)
    ∙ sum_both n (λ v. most_at (at b v) ps.first.sign (in_sum m ps.first.sum (var m v))) (λ v. second_at m (at b v) ps.second (var m v))
    ∙ ap (λ (z : ℤ). z +ℤ sum_to n (λ v. second_at m (at b v) ps.second (var m v))) (part_most m b ps.first)
    ∙ ap (λ (z : ℤ). most_of_part m b ps.first +ℤ z) (second_most m b ps.second)
