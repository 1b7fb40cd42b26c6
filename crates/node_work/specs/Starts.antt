-- Boxes and multipliers on the way to the end of a node. No public clause cites this module.
use Rattle.std.specs.Prelude.{◌≡◌, true, All, List, [], ◌∷◌, Option, Some, map}
use Rattle.zero_one_rows.specs.declared.program.Row.{Row}
use Rattle.zero_one_rows.specs.Variables.{Voyage}
use Rattle.zero_one_rows.specs.Rows.{whole, base}
use Rattle.proof_trees.specs.Boxes.{Box, tightened}
use Rattle.proof_trees.specs.Multipliers.{Multipliers, raised_all}
use Rattle.proof_trees.specs.Trees.{Pending, begun}
use Rattle.certificate.specs.declared.tree.Record.{Record}
use Rattle.certificate.specs.Entries.{same_row, raise_of}
use Rattle.search_core.specs.Journals.{known}
use Rattle.zero_one_rows.specs.Tightening.{ForceAll}
use Rattle.node_solver.specs.declared.worked.Worked.{Worked}
use Rattle.node_solver.specs.declared.worked.Worked.TheVariants.{Closed, Branched, Full, NoMemory}

-- the box is that of the node after these steps, each of a base row that forced a variable
pub record IsTight (m : Voyage) (q : Pending Row) (b : Box) (steps : List Row) : Type 0 where
  pub rows : All (λ r. (base m).has r ≡ true) steps
  pub box : b ≡ tightened (whole m) q.box steps
  pub forced : ForceAll (whole m) q.box steps

-- a record that divides the box has these steps
abbrev pub HasSteps : List Row → Worked → Type 0
HasSteps steps (Closed r) = Unit {0}
HasSteps steps (Branched r) = r.steps ≡ steps
HasSteps steps (Full r b cost) = Unit {0}
HasSteps steps NoMemory = Unit {0}

-- where a record divides the box, the second box is the first after its steps
abbrev pub IsAfterSteps : Voyage → Box → Box → Worked → Type 0
IsAfterSteps m b c (Closed r) = Unit {0}
IsAfterSteps m b c (Branched r) = c ≡ tightened (whole m) b r.steps
IsAfterSteps m b c (Full r full cost) = Unit {0}
IsAfterSteps m b c NoMemory = Unit {0}

-- the multipliers after a record's raises, where none leaves its range
abbrev pub priced : Multipliers Row → Record → Option (Multipliers Row)
priced ms r = raised_all same_row (Some (begun r.from_zero ms)) (map raise_of r.raises)

-- after several records
abbrev pub prices_along : Multipliers Row → List Record → Multipliers Row
prices_along ms [] = ms
prices_along ms (r ∷ rs) = prices_along (known (priced ms r)) rs

-- none leaves its range
abbrev pub InRange : Multipliers Row → List Record → Type 0
InRange ms [] = Unit {0}
InRange ms (r ∷ rs) = (us : Multipliers Row) × (priced ms r ≡ Some us) × InRange us rs
