use Rattle.std.proofs.Common.{arith, ap, ◌∙◌}
use Rattle.shared_search.specs.Tokens.{SeatToken}
use Rattle.shared_search.proofs.Moves.{loads, live_owner}
use Rattle.shared_search.proofs.Seats.{splits}
use Rattle.shared_search.proofs.Tokens.{same_table}
use Rattle.shared_search.proofs.board.Board.split.Goals as goal

pub load-requires : goal.load-requires
load-requires c = (same_table _ _ _ _ c.owner.view_is c.self.view_is c.requires.board, omega (arith, c.self.invariant), loads _ _ _ _ (live_owner _ c.owner.invariant.1))

pub split_seat-seat-requires : goal.split_seat-seat-requires
split_seat-seat-requires c =
    let e = c.load.ensures in (
      e.0 ∙ same_table _ _ _ _ c.owner.view_is c.self.view_is c.requires.board,
      omega (arith, c.self.invariant),
      splits _ _ _ (ap (λ m. m.0.role) e.2.0 ∙ c.owner.invariant.1) (omega (arith, ap (λ m. m.0.made) e.2.0, ap (λ (t : SeatToken). t.view.made) c.owner.view_is, c.requires.room)),
    )
