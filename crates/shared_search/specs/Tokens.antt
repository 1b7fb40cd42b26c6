-- What contracts see of a board and of its owner and seats.
use Rattle.std.specs.Prelude.{ℕ}
use Rattle.atomic_table.specs.Seated.{TableId}
use Rattle.shared_search.specs.declared.view.View.{View}

-- which board it is, with its start and its budget
pub record BoardToken : Type 0 where
  pub id : TableId
  pub start : ℕ
  pub budget : ℕ

-- the board that a seat belongs to, and what the seat knows
pub record SeatToken : Type 0 where
  pub board : TableId
  pub view : View
