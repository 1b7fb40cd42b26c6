-- What building the parts of a model answers.
use Rattle.std.specs.Prelude.{◌≡◌, ◌≤◌, List, length, Result, Ok, Err}
use Rattle.zero_one_rows.specs.declared.program.Var.{Var}
use Rattle.zero_one_rows.specs.Variables.{Voyage, variables}
use Rattle.zero_one_rows.specs.Counted.{row_lists}
use Rattle.zero_one_model.specs.declared.building.Tables.{Tables}
use Rattle.zero_one_model.specs.declared.refusals.ModelNo.{ModelNo}
use Rattle.zero_one_model.specs.declared.refusals.ModelNo.TheVariants.{TooLarge, NoMemory}
use Rattle.zero_one_model.specs.Building.{Passes, AreCounts}
use Rattle.zero_one_model.specs.Indexed.{IsIndex}
use Rattle.zero_one_model.specs.Runs.{IsFiled}

-- the tables of a program within its limit of rows
pub record AreTables (m : Voyage) (t : Tables) : Type 0 where
  pub counts : AreCounts m t.counts
  pub lists : t.lists ≡ row_lists m
  pub index : IsIndex m t.index
  pub files : IsFiled m t.files

abbrev pub BuildsTables : Voyage → Result Tables ModelNo → Type 0
BuildsTables m (Ok t) = AreTables m t
BuildsTables m (Err (TooLarge limit n)) = Passes m limit n
BuildsTables m (Err NoMemory) = Unit {0}

-- the variables and the tables of a program within its limits
abbrev pub BuildsParts : Voyage → Result (List Var × Tables) ModelNo → Type 0
BuildsParts m (Ok p) = (p.0 ≡ variables m) × (length (variables m) ≤ 200000) × AreTables m p.1
BuildsParts m (Err (TooLarge limit n)) = Passes m limit n
BuildsParts m (Err NoMemory) = Unit {0}
