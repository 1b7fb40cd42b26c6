-- What a crossing row gains where its multiplier rises by 1, pair by pair of its chain. No public clause cites this module.
use Rattle.std.specs.Prelude.{ℕ, List, [], ◌∷◌, ℤ, pos, ◌+ℤ◌}
use Rattle.zero_one_rows.specs.declared.program.Row.{Row}
use Rattle.zero_one_rows.specs.declared.program.Row.TheVariants.{Cross}
use Rattle.zero_one_rows.specs.Variables.{Voyage}
use Rattle.zero_one_rows.specs.Rows.{whole}
use Rattle.proof_trees.specs.Boxes.{Box}
use Rattle.crossing_pricing.specs.Pairs.{price_of_all}
use Rattle.dual_bound.specs.Costs.{gaps_of}

-- a row's right side, and what its variables gain where its multiplier rises by 1
abbrev pub gain_of : Voyage → Box → List ℤ → Row → ℤ
gain_of m b ds r = (whole m).rhs r +ℤ gaps_of m b ds r (pos 1)

-- what a pair of calls brings to the gain of a crossing row: what a row of this pair alone would gain, were the columns free
abbrev pub pair_gain : Voyage → Box → List ℤ → ℕ → ℕ → ℕ → ℕ → ℤ
pair_gain m b ds l price i d = gain_of m b ds (Cross l price (i ∷ d ∷ [])) +ℤ price_of_all m l price
