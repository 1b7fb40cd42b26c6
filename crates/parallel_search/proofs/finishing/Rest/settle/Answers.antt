use Rattle.std.proofs.Common.{refl, ap, sym, subst}
use Rattle.steal_pool.proofs.Steps.{on_ok}
use Rattle.steal_pool.specs.declared.deeds.Deeds.{Deeds}
use Rattle.parallel_search.specs.Ends.{IsRest}
use Rattle.parallel_search.proofs.Rests.{rest_settled}
use Rattle.parallel_search.proofs.Under.{under_handled, under_at}
use Rattle.parallel_search.proofs.finishing.Rest.settle.Goals as goal

pub returns-clause-rest : goal.returns-clause-rest
returns-clause-rest g c = on_ok c.add.result
    (λ todo all rest. subst (λ (d : Deeds). IsRest c.args.solver.now c.args.board.now.start c.handle.new.seat.view 0 all c.add.new.self.todo.items d) (sym c.add.ensures.deeds)
    (rest_settled c.args.solver.now c.args.board.now.start c.args.seat.now.view all c.args.self.now.deeds c.args.self.now.todo.items c.args.node c.handle.new.seat.view c.handle.new.deeds c.in_ok-halves.halves c.add.new.self.todo.items todo c.in_ok-halves.ensures.halves c.in_ok-halves.ensures.done rest)) c.add.ensures.todo

pub returns-clause-under : goal.returns-clause-under
returns-clause-under g c = on_ok c.add.result
    (λ todo first u. under_at first c.add.new.self.todo.items c.add.new.self.todo.items c.handle.new.deeds.journal c.add.new.self.deeds.journal refl (sym (ap (λ (d : Deeds). d.journal) c.add.ensures.deeds))
    (under_handled first c.args.solver.now c.args.seat.now.view c.handle.new.seat.view c.in_ok-halves.halves c.args.self.now.todo.items c.add.new.self.todo.items c.args.node c.args.self.now.deeds c.handle.new.deeds c.in_ok-halves.ensures.handled todo u)) c.add.ensures.todo
