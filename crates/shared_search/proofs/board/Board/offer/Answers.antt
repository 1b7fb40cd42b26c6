use Rattle.std.proofs.Common.{arith}
use Rattle.shared_search.proofs.Moves.{offers, live_worker}
use Rattle.shared_search.proofs.Tokens.{same_table}
use Rattle.shared_search.proofs.board.Board.offer.Goals as goal

pub fetch_min-requires : goal.fetch_min-requires
fetch_min-requires c = (same_table _ _ _ _ c.seat.view_is c.self.view_is c.requires, omega (arith, c.self.invariant), offers _ _ _ _ _ (live_worker _ c.seat.invariant.1))
