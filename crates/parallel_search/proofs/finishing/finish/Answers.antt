use Rattle.search_core.specs.Bags.{weigh}
use Rattle.steal_pool.specs.Deeds.{on_nodes}
use Rattle.parallel_search.proofs.Rests.{rest_starts}
use Rattle.std.proofs.Common.{ap}
use Rattle.steal_pool.specs.declared.deeds.Deeds.{Deeds}
use Rattle.parallel_search.proofs.Under.{under_first}
use Rattle.parallel_search.proofs.finishing.finish.Goals as goal

pub finish_rest-requires-clause-rest : goal.finish_rest-requires-clause-rest
finish_rest-requires-clause-rest g c κs within =
    ((λ h. weigh (on_nodes c.args.solver.now h) c.args.todo.items), rest_starts c.args.solver.now c.args.board.now.start c.args.seat.now.view c.none.result c.args.todo.items c.requires.view c.none.ensures c.requires.nodes)

pub returns-in-Ok-clause-done : goal.returns-in-Ok-clause-done
returns-in-Ok-clause-done g c =
    c.in-Ok.ensures.done (λ h. weigh (on_nodes c.args.solver.now h) c.args.todo.items) (rest_starts c.args.solver.now c.args.board.now.start c.args.seat.now.view c.none.result c.args.todo.items c.requires.view c.none.ensures c.requires.nodes)

pub returns-in-Ok-clause-under : goal.returns-in-Ok-clause-under
returns-in-Ok-clause-under g c = c.in-Ok.ensures.under c.args.todo.items (under_first c.args.todo.items c.none.result (ap (λ (d : Deeds). d.journal) c.none.ensures))
