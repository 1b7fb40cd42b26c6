-- Where in a box the reduced costs are least.
use Rattle.std.specs.Prelude.{◌≡◌, ℕ, ◌<◌, Bool, true, false, cond, int_lt, List, length, Option, Some, None, slice_index_or, ℤ, pos}
use Rattle.proof_trees.specs.Boxes.{Box, at}

abbrev pub reduced_at : List ℤ → ℕ → ℤ
reduced_at ds v = slice_index_or ds v (pos 0)

-- a free variable whose reduced cost isn't 0 has the cheaper value
abbrev pub cheaper : Option Bool → ℤ → Option Bool
cheaper (Some y) d = Some y
cheaper None d = cond (int_lt (pos 0) d) (Some false) (cond (int_lt d (pos 0)) (Some true) None)

-- the second box is where the reduced costs are least in the first
pub record Leans (b : Box) (ds : List ℤ) (minimizer : Box) : Type 0 where
  pub len : length minimizer ≡ length b
  pub each : (v : ℕ) → v < length b → at minimizer v ≡ cheaper (at b v) (reduced_at ds v)
