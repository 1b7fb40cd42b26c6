-- Packing rows, by which at most one of some variables is at 1. No public clause cites this module.
use Rattle.std.specs.Prelude.{◌≡◌, ℕ, ◌<◌, Bool, true, false, All, List, Some, Contains, length}
use Rattle.proof_trees.specs.Boxes.{Box, at}
use Rattle.zero_one_rows.specs.declared.program.Row.{Row}
use Rattle.zero_one_rows.specs.declared.program.Row.TheVariants.{Flow, Start, Cell, Support, Twenty, Block, Hatch, Weight, Apart, Cross}

-- of a family whose coefficients are 0 or -1, and whose right sides are -1
abbrev pub is_packing : Row → Bool
is_packing (Flow q i g) = false
is_packing (Start q p) = false
is_packing (Cell i h) = true
is_packing (Support i h) = false
is_packing (Twenty i h) = false
is_packing (Block j h) = true
is_packing (Hatch w j h d) = true
is_packing (Weight i k) = false
is_packing (Apart i e p q) = true
is_packing (Cross l p c) = false

-- these variables are of the box, and those that it has at 1 are among them
pub record AreOnes (b : Box) (xs : List ℕ) : Type 0 where
  pub inside : All (λ v. v < length b) xs
  pub each : (v : ℕ) → at b v ≡ Some true → Contains xs v
