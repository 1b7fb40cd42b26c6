-- The number of rounds below which no crane list comes.
use Rattle.std.specs.Prelude.{ℕ, ◌+◌, ◌*◌, ◌≤◌, Bool, ◌&&◌, cond, nat_le, List, [], ◌∷◌, length}
use Rattle.stow_data.specs.Ship.{Ship}
use Rattle.voyage_meaning.specs.declared.moves.Move.{Move}
use Rattle.crane_lists.specs.Bays.{bay_of_move}

-- the bay of the move lies in the window b to b + 7
abbrev pub is_in_window : Ship → ℕ → Move → Bool
is_in_window ship b m = nat_le b (bay_of_move ship m) && nat_le (bay_of_move ship m) (b + 7)

-- how many moves lie in the window
abbrev pub window_count : Ship → ℕ → List Move → ℕ
window_count ship b [] = 0
window_count ship b (m ∷ ms) = cond (is_in_window ship b m) 1 0 + window_count ship b ms

-- so many rounds have room for all moves, and for those of each window one a round
pub record HasRoom (ship : Ship) (moves : List Move) (cranes rounds : ℕ) : Type 0 where
  pub by_number : length moves ≤ cranes * rounds
  pub by_window : (b : ℕ) → window_count ship b moves ≤ rounds

-- the least such number: the greater of the number of moves divided by the number of cranes, rounded up, and the greatest number of moves in one window
pub record IsLeastRounds (ship : Ship) (moves : List Move) (cranes least : ℕ) : Type 0 where
  pub has_room : HasRoom ship moves cranes least
  pub is_least : (rounds : ℕ) → HasRoom ship moves cranes rounds → least ≤ rounds
