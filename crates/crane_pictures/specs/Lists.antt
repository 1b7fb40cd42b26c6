-- The crane lists that can be drawn.
use Rattle.std.specs.Prelude.{◌≡◌, ℕ, ◌≤◌, List, length, All}
use Rattle.std.specs.List.{sum_by}
use Rattle.stow_report.specs.declared.crane_lists.CraneMove.{CraneMove}
use Rattle.stow_report.specs.declared.crane_lists.CraneReport.{CraneReport}
use Rattle.stow_report.specs.CraneLists.{crane_text}

-- a round has a move for some of these cranes, or for all
abbrev pub IsShared : ℕ → List CraneMove → Type 0
IsShared cranes moves = length moves ≤ cranes

-- at most eight cranes and 20,000 rounds, in none of them more moves than cranes, and as many moves as the list says
pub record IsDrawable (list : CraneReport) : Type 0 where
  pub few_cranes : list.cranes ≤ 8
  pub few_rounds : length list.rounds ≤ 20000
  pub shared : All (IsShared 8) list.rounds
  pub by_cranes : All (IsShared list.cranes) list.rounds
  pub counted : list.moves ≡ sum_by length list.rounds

-- the text is what is printed of the list, which can be drawn
pub record IsListOf (text : List ℕ) (list : CraneReport) : Type 0 where
  pub printed : text ≡ crane_text list
  pub drawable : IsDrawable list
