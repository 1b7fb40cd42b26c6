use Rattle.std.proofs.Common.{◌≡◌}
use Rattle.std.proofs.Common.{List}
use Rattle.certificate.specs.declared.nodes.Node.{Node}
use Rattle.steal_pool.specs.Deeds.{Flow}
use Rattle.parallel_search.specs.Ends.{AreUnder, IsRest, IsLive}
use Rattle.parallel_search.proofs.finishing.finish_rest.Given as goal

abbrev pub invariant-loop : goal.invariant-loop
invariant-loop g l = record {
  next : (goal.iterator-loop g).can_next l.iterator';
  finite : (goal.iterator-loop g).is_finite l.iterator';
  solver : l.solver ≡ l.fn.solver;
  seat : l.seat.board ≡ l.fn.seat.board;
  rest : (all : Flow) → IsRest l.fn.solver l.board.start l.fn.seat.view 0 all l.fn.rest.todo.items l.fn.rest.deeds → IsRest l.fn.solver l.board.start l.seat.view 0 all l.rest.todo.items l.rest.deeds;
  under : (first : List Node) → AreUnder first l.fn.rest.todo.items l.fn.rest.deeds.journal → AreUnder first l.rest.todo.items l.rest.deeds.journal;
  live : IsLive l.live l.seat.view;
}
