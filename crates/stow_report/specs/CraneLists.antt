-- What is printed of a crane list.
use Rattle.std.specs.Prelude.{ℕ, ◌+◌, codes, List, [], ◌∷◌, ◌++◌, length}
use Rattle.std.specs.Fmt.{decimal}
use Rattle.baplie.specs.Texts.{cell_digits}
use Rattle.stow_report.specs.Reports.{number_line}
use Rattle.stow_report.specs.declared.crane_lists.CraneMove.{CraneMove}
use Rattle.stow_report.specs.declared.crane_lists.CraneMove.TheVariants.{Lift, Put, Off, On}
use Rattle.stow_report.specs.declared.crane_lists.CraneReport.{CraneReport}

-- a word, the bay, row and tier number of a cell, and a container's number
abbrev pub container_text : List ℕ → ℕ × ℕ × ℕ → List ℕ → List ℕ
container_text word cell id = word ++ cell_digits cell.0 cell.1 cell.2 ++ 32 ∷ id

-- what a crane does
abbrev pub move_text : CraneMove → List ℕ
move_text (Lift cell id) = container_text (codes "lift ") cell id
move_text (Put cell id) = container_text (codes "put ") cell id
move_text (Off cover) = codes "off " ++ decimal cover
move_text (On cover) = codes "on " ++ decimal cover

-- the line of a crane in a round
abbrev pub move_line : ℕ → ℕ → CraneMove → List ℕ
move_line round crane step = decimal round ++ 32 ∷ decimal crane ++ 32 ∷ move_text step ++ 10 ∷ []

-- the lines of a round: one for each crane, from this one on
unfoldable pub round_text : ℕ → ℕ → List CraneMove → List ℕ
round_text round crane [] = []
round_text round crane (step ∷ moves) = move_line round crane step ++ round_text round (crane + 1) moves

-- those of all rounds, from this one on; cranes count from 1
unfoldable pub rounds_text : ℕ → List (List CraneMove) → List ℕ
rounds_text round [] = []
rounds_text round (moves ∷ rounds) = round_text round 1 moves ++ rounds_text (round + 1) rounds

-- the numbers of cranes, moves and rounds, the least number of rounds, and then the rounds, which count from 1
abbrev pub crane_text : CraneReport → List ℕ
crane_text r = number_line (codes "cranes ") r.cranes ++ (number_line (codes "moves ") r.moves ++ (number_line (codes "rounds ") (length r.rounds) ++ (number_line (codes "least ") r.least ++ rounds_text 1 r.rounds)))
