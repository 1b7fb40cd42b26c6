use Rattle.std.proofs.Common.{◌≡◌, take}
use Rattle.crane_lists.specs.Sharing.{IsBoard, IsMaking}
use Rattle.crane_lists.proofs.rounds.next_round.Given as goal

abbrev pub invariant-loop-j : goal.invariant-loop-j
invariant-loop-j l = record {
  makes : IsMaking l.ship l.tasks l.cranes l.initial.board.done (take l.j-index l.order) l.round.items;
  board : IsBoard l.ship l.tasks l.board.done l.board.clear_to;
  done : l.board.done ≡ l.initial.board.done;
  rounds : l.board.rounds ≡ l.initial.board.rounds;
}
