use Rattle.std.proofs.Common.{arith}
use Rattle.shared_search.proofs.Moves.{loads, live_worker}
use Rattle.shared_search.proofs.Tokens.{same_table}
use Rattle.shared_search.proofs.board.Board.best.Goals as goal

pub load-requires : goal.load-requires
load-requires c = (same_table _ _ _ _ c.seat.view_is c.self.view_is c.requires, omega (arith, c.self.invariant), loads _ _ _ _ (live_worker _ c.seat.invariant.1))
