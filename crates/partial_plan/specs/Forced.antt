-- What a row forces by its slack: by how much its greatest value over the box passes its right side. No public clause cites this module.
use Rattle.std.specs.Prelude.{ℕ, Bool, cond, ◌&&◌, Option, ℤ, pos, int_lt}
use Rattle.std.specs.Option.{is_none}
use Rattle.std.specs.Int.RustNames.{unsigned_abs}
use Rattle.proof_trees.specs.Boxes.{Box, at, fixed}

abbrev pub is_above : ℤ → Bool
is_above a = int_lt (pos 0) a

-- a row with this slack forces a variable with this coefficient
abbrev pub forces : ℤ → Option Bool → ℤ → Bool
forces s o a = is_none o && int_lt s (pos (unsigned_abs a))

-- one variable is looked at
abbrev pub stepped : ℤ → Box → ℕ → ℤ → Box
stepped s b v a = cond (forces s (at b v) a) (fixed b v (is_above a)) b
