-- How tightening by the base rows ends, and that each step forces a variable.
use Rattle.std.specs.Prelude.{◌≡◌, ◌≢◌, true, false, List, [], ◌∷◌}
use Rattle.proof_trees.specs.Program.{Program}
use Rattle.proof_trees.specs.Boxes.{Box, violated, tight}
use Rattle.zero_one_rows.specs.declared.program.Row.{Row}
use Rattle.zero_one_rows.specs.Variables.{Voyage}
use Rattle.zero_one_rows.specs.Rows.{base, whole}

-- the row is not violated and forces no free variable
abbrev pub IsCalm : Voyage → Box → Row → Type 0
IsCalm m b r = (violated (whole m) b r ≡ false) × (tight (whole m) b r ≡ b)

-- no base row is violated or forces a free variable
abbrev pub IsQuiet : Voyage → Box → Type 0
IsQuiet m b = (r : Row) → (base m).has r ≡ true → IsCalm m b r

-- each row forces at least one free variable at its turn
abbrev pub ForceAll : {R : Type 0} → Program R → Box → List R → Type 0
ForceAll p b [] = Unit {0}
ForceAll p b (r ∷ rs) = (tight p b r ≢ b) × ForceAll p (tight p b r) rs
