use Rattle.std.proofs.Common.{arith, ap, ◌∙◌}
use Rattle.shared_search.specs.Tokens.{SeatToken}
use Rattle.shared_search.proofs.Moves.{reads_budget, draws, live_worker}
use Rattle.shared_search.proofs.Tokens.{same_table}
use Rattle.shared_search.proofs.board.Board.draw.Goals as goal

pub load-budget-requires : goal.load-budget-requires
load-budget-requires c = (same_table _ _ _ _ c.seat.view_is c.self.view_is c.requires.board, omega (arith, c.self.invariant), reads_budget _ _ _ _ (live_worker _ c.seat.invariant.1))

pub fetch_add-ticket-requires : goal.fetch_add-ticket-requires
fetch_add-ticket-requires c =
    let e = c.load-budget.ensures in
    (e.0 ∙ same_table _ _ _ _ c.seat.view_is c.self.view_is c.requires.board, omega (arith, c.self.invariant), draws _ _ _ _ (ap (λ m. m.0.role) e.2.0 ∙ c.seat.invariant.1) (ap (λ m. m.0.over) e.2.0 ∙ ap (λ (t : SeatToken). t.view.over) c.seat.view_is ∙ c.requires.none_over))
