-- Least and greatest values of sums over a box, by which fixed variables they change.
use Rattle.std.specs.Prelude.{Bool, true, false, Option, Some, None, length, ℤ, pos, ◌+ℤ◌, ◌-ℤ◌}
use Rattle.proof_trees.specs.Program.{sum_to, where_set}
use Rattle.proof_trees.specs.Boxes.{Box, at}
use Rattle.zero_one_rows.specs.Variables.{Voyage, variables, var}
use Rattle.row_sums.specs.declared.sums.Sum.{Sum}
use Rattle.row_sums.specs.declared.sums.Sign.{Sign}
use Rattle.row_sums.specs.declared.sums.Sign.TheVariants.{Plus, Minus}
use Rattle.row_sums.specs.declared.sums.Part.{Part}
use Rattle.row_sums.specs.declared.sums.Parts.{Parts}
use Rattle.row_sums.specs.Sums.{in_sum}

-- fixed to 1; not fixed to 0
abbrev pub is_one : Option Bool → Bool
is_one None = false
is_one (Some y) = y

abbrev pub may_be_one : Option Bool → Bool
may_be_one None = true
may_be_one (Some y) = y

module _ (m : Voyage) (b : Box) where
  -- the least value of a sum: that of its variables that are fixed to 1
  abbrev pub least_of : Sum → ℤ
  least_of a = sum_to (length (variables m)) (λ v. where_set (is_one (at b v)) (in_sum m a (var m v)))

  -- the greatest value of a sum: that of its variables that aren't fixed to 0
  abbrev pub most_of : Sum → ℤ
  most_of a = sum_to (length (variables m)) (λ v. where_set (may_be_one (at b v)) (in_sum m a (var m v)))

  -- the greatest value of a signed sum: fixing to 1 changes only those with minus, fixing to 0 only those with plus
  abbrev pub most_of_part : Part → ℤ
  most_of_part p = by_sign p.sign
    where
      by_sign : Sign → ℤ
      by_sign Plus = most_of p.sum
      by_sign Minus = pos 0 -ℤ least_of p.sum

  abbrev pub most_of_second : Option Part → ℤ
  most_of_second None = pos 0
  most_of_second (Some p) = most_of_part p

  abbrev pub most_of_parts : Parts → ℤ
  most_of_parts ps = most_of_part ps.first +ℤ most_of_second ps.second
