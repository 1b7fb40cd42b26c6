-- Full boxes that break no base row, and what their plans are.
use Rattle.std.specs.Prelude.{◌≡◌, true, false, List, length, All, IsSome, pos, ◌≤ℤ◌}
use Rattle.stow_data.specs.Plans.{Plan}
use Rattle.voyage_meaning.specs.declared.moves.Move.{Move}
use Rattle.voyage_meaning.specs.Voyage.{IsLegalVoyage, voyage_cost}
use Rattle.proof_trees.specs.Program.{cost_of}
use Rattle.proof_trees.specs.Boxes.{Box, violated}
use Rattle.zero_one_rows.specs.declared.program.Row.{Row}
use Rattle.zero_one_rows.specs.Variables.{Voyage, variables}
use Rattle.zero_one_rows.specs.Rows.{base}
use Rattle.model_bridge.specs.Pairs.{ones}

-- the box fixes each variable
pub record IsFull (m : Voyage) (b : Box) : Type 0 where
  pub long : length b ≡ length (variables m)
  pub fixed : All IsSome b

-- no base row is violated in the box
abbrev pub BreaksNone : Voyage → Box → Type 0
BreaksNone m b = (r : Row) → (base m).has r ≡ true → violated (base m) b r ≡ false

-- plans of a legal voyage that costs at most what the box's ones cost
pub record AreSailed (m : Voyage) (b : Box) (plans : List Plan) : Type 0 where
  pub moves : List (List Move)
  pub legal : IsLegalVoyage m.ship m.cargo moves plans
  pub cheap : pos (voyage_cost m.ship m.cargo moves plans) ≤ℤ cost_of (base m) (ones b)
