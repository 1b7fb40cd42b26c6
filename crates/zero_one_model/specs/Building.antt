-- What building a model answers.
use Rattle.std.specs.Prelude.{◌≡◌, ◌<◌, ◌≤◌, ℕ, List, length, Result, Ok, Err}
use Rattle.stow_data.specs.declared.limits.Limit.{Limit}
use Rattle.stow_data.specs.declared.limits.Limit.TheVariants.{Calls, Containers, Places, Variables, Rows, Certificate}
use Rattle.zero_one_rows.specs.declared.program.Var.{Var}
use Rattle.zero_one_rows.specs.Variables.{Voyage, variables}
use Rattle.zero_one_model.specs.declared.refusals.ModelNo.{ModelNo}
use Rattle.zero_one_model.specs.declared.refusals.ModelNo.TheVariants.{TooLarge, NoMemory}
use Rattle.zero_one_rows.specs.declared.counts.RowCounts.{RowCounts}
use Rattle.zero_one_rows.specs.Counted.{base_rows, all_rows}

-- within the limits of variables and rows
pub record IsWithin (m : Voyage) : Type 0 where
  pub vars : length (variables m) ≤ 200000
  pub rows : length (all_rows m) ≤ 2000000

-- the limit that is passed, first that of variables, then that of rows; and the number that passes it
abbrev pub Passes : Voyage → Limit → ℕ → Type 0
Passes m Variables n = (n ≡ length (variables m)) × (200000 < n)
Passes m Rows n = (n ≡ length (all_rows m)) × (2000000 < n) × (length (variables m) ≤ 200000)
Passes m Calls n = ⊥
Passes m Containers n = ⊥
Passes m Places n = ⊥
Passes m Certificate n = ⊥

-- the model of the voyage where it is within the limits; want of memory is free
abbrev pub Builds : Voyage → Result Voyage ModelNo → Type 0
Builds m (Ok b) = (b ≡ m) × IsWithin m
Builds m (Err (TooLarge limit n)) = Passes m limit n
Builds m (Err NoMemory) = Unit {0}

-- the variables where they are within their limit
abbrev pub BuildsVariables : Voyage → Result (List Var) ModelNo → Type 0
BuildsVariables m (Ok xs) = (xs ≡ variables m) × (length (variables m) ≤ 200000)
BuildsVariables m (Err (TooLarge limit n)) = Passes m limit n
BuildsVariables m (Err NoMemory) = Unit {0}

-- the numbers of rows, within their limit
pub record AreCounts (m : Voyage) (c : RowCounts) : Type 0 where
  pub base : c.base ≡ length (base_rows m)
  pub all : c.all ≡ length (all_rows m)
  pub few : length (all_rows m) ≤ 2000000

abbrev pub BuildsCounts : Voyage → Result RowCounts ModelNo → Type 0
BuildsCounts m (Ok c) = AreCounts m c
BuildsCounts m (Err (TooLarge limit n)) = Passes m limit n
BuildsCounts m (Err NoMemory) = Unit {0}
