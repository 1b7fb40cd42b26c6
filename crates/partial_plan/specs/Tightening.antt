-- What tightening by the base rows does.
use Rattle.std.specs.Prelude.{◌≡◌, true, All, List, ◌++◌}
use Rattle.proof_trees.specs.Boxes.{Box, tightened}
use Rattle.zero_one_rows.specs.declared.program.Row.{Row}
use Rattle.zero_one_rows.specs.Variables.{Voyage}
use Rattle.zero_one_rows.specs.Rows.{base, whole}
use Rattle.zero_one_rows.specs.Tightening.{ForceAll}

-- base rows stand behind the steps so far, and the second box is the first one tightened by them in order; each forced a free variable at its turn
pub record Tightens (m : Voyage) (b c : Box) (old new : List Row) : Type 0 where
  pub rows : List Row
  pub added : new ≡ old ++ rows
  pub base : All (λ r. (base m).has r ≡ true) rows
  pub box : c ≡ tightened (whole m) b rows
  pub forced : ForceAll (whole m) b rows
