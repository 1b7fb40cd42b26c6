use Rattle.std.proofs.Common.{ap, subst, ◌∙◌, arith}
use Rattle.shared_search.specs.declared.view.View.{View}
use Rattle.shared_search.specs.Rule.{seen_at}
use Rattle.steal_pool.specs.UnderWay.{Tells}
use Rattle.steal_pool.proofs.Steps.{if_ok, tells_over}
use Rattle.steal_pool.proofs.Adding.{tells_tickets}
use Rattle.steal_pool.proofs.Handled.{goes_on, halves_there}
use Rattle.steal_pool.proofs.handling.handle.Goals as goal

pub work-ended-requires-clause-cut : goal.work-ended-requires-clause-cut
work-ended-requires-clause-cut g c = omega (arith, c.best-cut.ensures.start, c.requires.start)

pub returns-clause-over : goal.returns-clause-over
returns-clause-over g c = tells_over c.work-ended.result c.best-cut.new.seat.view c.tell.new.seat.view c.tell.ensures.told ∙ ap (λ (x : View). x.over) c.best-cut.ensures.view

pub returns-clause-halves : goal.returns-clause-halves
returns-clause-halves g c = if_ok c.end.result _ _ (λ halves did. halves_there c.args.solver.now c.args.node c.args.deeds.now c.end.new.self c.best-cut.result c.work-ended.result halves c.requires.node c.work-ended.ensures.worked did) c.end.ensures

pub returns-clause-done : goal.returns-clause-done
returns-clause-done g c =
    let told : Tells c.work-ended.result (seen_at c.args.seat.now.view c.best-cut.result) c.tell.new.seat.view
    = subst (λ (t : View). Tells c.work-ended.result t c.tell.new.seat.view) c.best-cut.ensures.view c.tell.ensures.told in
    if_ok c.end.result _ _ (λ halves did start came gone way. goes_on c.args.solver.now start c.args.node came gone c.args.seat.now.view c.tell.new.seat.view c.args.deeds.now c.end.new.self c.best-cut.result c.work-ended.result halves
    c.best-cut.ensures.seen c.best-cut.ensures.offered c.best-cut.ensures.start c.requires.node c.work-ended.ensures.worked told did way) c.end.ensures

pub returns-clause-tickets : goal.returns-clause-tickets
returns-clause-tickets g c = tells_tickets c.work-ended.result c.best-cut.new.seat.view c.tell.new.seat.view c.tell.ensures.told ∙ ap (λ (x : View). x.tickets) c.best-cut.ensures.view

pub returns-clause-handled : goal.returns-clause-handled
returns-clause-handled g c =
    let told : Tells c.work-ended.result (seen_at c.args.seat.now.view c.best-cut.result) c.tell.new.seat.view
    = subst (λ (t : View). Tells c.work-ended.result t c.tell.new.seat.view) c.best-cut.ensures.view c.tell.ensures.told in
    if_ok c.end.result _ _
    (λ halves did. record { cut = c.best-cut.result; ended = c.work-ended.result; seen = c.best-cut.ensures.seen; offered = c.best-cut.ensures.offered; start = c.best-cut.ensures.start; works = c.work-ended.ensures.worked; tells = told; did = did }) c.end.ensures
