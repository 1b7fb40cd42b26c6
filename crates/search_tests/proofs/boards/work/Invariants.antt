use Rattle.std.proofs.Common.{◌≡◌}
use Rattle.search_tests.proofs.boards.work.Given as goal

abbrev pub invariant-loop-turn : goal.invariant-loop-turn
invariant-loop-turn l = (l.worker.seat.board ≡ l.board.id) × (l.worker.seat.view.over ≡ 0)
