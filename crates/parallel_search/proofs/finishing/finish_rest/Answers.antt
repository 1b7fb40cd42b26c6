use Rattle.std.proofs.Common.{◌≡◌, ◌++◌, ◌∷◌, [], List, refl, subst, ◌∙◌, rules}
use Rattle.certificate.specs.declared.nodes.Node.{Node}
use Rattle.search_core.specs.Bags.{weigh}
use Rattle.steal_pool.specs.Deeds.{IsDone, on_nodes}
use Rattle.parallel_search.proofs.Rests.{rest_at, rest_next}
use Rattle.parallel_search.proofs.Under.{under_at}
use Rattle.parallel_search.proofs.finishing.finish_rest.Goals as goal

pub loop-init : goal.loop-init
loop-init g c = record {
  next = tt;
  finite = tt;
  solver = refl;
  seat = refl;
  rest = λ all first. first;
  under = λ first u. u;
  live = (λ e. c.requires.none_over, λ e. absurd (cc));
}

pub step-requires-clause-rest : goal.step-requires-clause-rest
step-requires-clause-rest g c κs within =
    let e : c.loop.rest.todo.items ≡ c.pop.new.self.items ++ c.in-Some-pop.node ∷ [] = search rules in
    let all = c.requires.rest.0 in
    (all, rest_at c.args.solver.now c.loop.solver c.args.board.now.start c.loop.seat.view all c.loop.rest.todo.items (c.pop.new.self.items ++ c.in-Some-pop.node ∷ []) c.loop.rest.deeds c.loop.invariant.solver e (c.loop.invariant.rest all c.requires.rest.1))

pub loop-preserved : goal.loop-preserved
loop-preserved g c =
    let e : c.loop.rest.todo.items ≡ c.pop.new.self.items ++ c.in-Some-pop.node ∷ [] = search rules in
    record {
      next = tt;
      finite = tt;
      solver = c.step.ensures.same ∙ c.loop.invariant.solver;
      seat = c.step.ensures.seat ∙ c.loop.invariant.seat;
      rest = λ all first. rest_next c.args.solver.now c.loop.solver c.args.board.now.start c.loop.seat.view c.step.new.seat.view all c.loop.rest.todo.items (c.pop.new.self.items ++ c.in-Some-pop.node ∷ []) c.step.new.self.todo.items c.loop.rest.deeds c.step.new.self.deeds
          c.loop.invariant.solver e (c.in_ok-live.ensures.rest all) (c.loop.invariant.rest all first);
      under = λ first u. c.in_ok-live.ensures.under first (under_at first c.loop.rest.todo.items (c.pop.new.self.items ++ c.in-Some-pop.node ∷ []) c.loop.rest.deeds.journal c.loop.rest.deeds.journal e refl (c.loop.invariant.under first u));
      live = c.in_ok-live.ensures.live;
    }

pub returns-in_default-clause-done : goal.returns-in_default-clause-done
returns-in_default-clause-done g c all first =
    let empty : c.loop.rest.todo.items ≡ [] = search rules in
    subst (λ (xs : List Node). IsDone c.args.solver.now c.args.board.now.start c.loop.seat.view 0 c.loop.rest.deeds all (λ h. weigh (on_nodes c.args.solver.now h) xs)) empty (c.loop.invariant.rest all first).done

pub returns-in_default-clause-under : goal.returns-in_default-clause-under
returns-in_default-clause-under g c first u =
    let empty : c.loop.rest.todo.items ≡ [] = search rules in
    under_at first c.loop.rest.todo.items [] c.loop.rest.deeds.journal c.loop.rest.deeds.journal empty refl (c.loop.invariant.under first u)
