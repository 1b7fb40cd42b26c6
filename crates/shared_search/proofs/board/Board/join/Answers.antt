use Rattle.std.proofs.Common.{arith}
use Rattle.shared_search.proofs.Seats.{joins}
use Rattle.shared_search.proofs.Tokens.{same_table}
use Rattle.shared_search.proofs.board.Board.join.Goals as goal

pub join_seat-requires : goal.join_seat-requires
join_seat-requires c = (
  same_table _ _ _ _ c.owner.view_is c.self.view_is c.requires.0,
  same_table _ _ _ _ c.seat.view_is c.self.view_is c.requires.1,
  c.seat.invariant.0,
  omega (arith, c.self.invariant),
  joins _ _ _ _ _ c.owner.invariant.1 c.seat.invariant.1,
)
