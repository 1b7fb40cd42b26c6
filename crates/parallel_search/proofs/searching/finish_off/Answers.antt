use Rattle.std.proofs.Common.{ap, sym, subst, ◌∙◌, length}
use Rattle.search_core.specs.Bags.{Every}
use Rattle.search_core.proofs.Weights.{every_append, every_more}
use Rattle.node_solver.specs.Work.{IsNode}
use Rattle.steal_pool.proofs.Steps.{if_ok}
use Rattle.parallel_search.proofs.Ends.{finished, passes_many}
use Rattle.parallel_search.proofs.Tallying.{all_tallied, if_both}
use Rattle.shared_search.specs.Racks.{room_at}
use Rattle.shared_search.specs.Tallies.{room_of, workers_of}
use Rattle.parallel_search.proofs.searching.finish_off.Goals as goal

pub finish_seated-requires-clause-nodes : goal.finish_seated-requires-clause-nodes
finish_seated-requires-clause-nodes g c κs within =
    let m = c.args.solver.now in
    let t = c.in-Ok.ensures.todo in
    subst (Every (IsNode m)) (sym t.1)
    (every_append (IsNode m) t.0 c.args.ended.aside.items (every_more g.M.Wanted.meets (IsNode m) t.0 c.requires.owner.means.node t.2)
    (every_more g.M.Wanted.meets (IsNode m) c.args.ended.aside.items c.requires.owner.means.node c.requires.end.aside))

pub returns-in-Ok-finish_seated-clause-done : goal.returns-in-Ok-finish_seated-clause-done
returns-in-Ok-finish_seated-clause-done g c =
    let t = c.in-Ok.ensures.todo in
    let f = c.in-Ok-finish_seated.ensures.done in
    if_ok c.tallied.result _ _ (λ all deeds. finished g.M.Wanted.meets c.args.board.now c.args.solver.now c.args.owner.now f.0 f.1 c.finish_seated.new.owner.view c.args.ended c.args.rack t.0 c.in-Ok.todo.items c.in-Ok-finish_seated.deeds all.0
    c.requires.owner c.requires.all c.requires.workers c.requires.end f.2 f.3 t.3 t.1 f.4 deeds) c.tallied.ensures.deeds

pub returns-in-Ok-finish_seated-clause-tally : goal.returns-in-Ok-finish_seated-clause-tally
returns-in-Ok-finish_seated-clause-tally g c =
    let t = c.in-Ok.ensures.todo in
    let tally = c.in-Ok.ensures.tally in
    if_both c.tallied.result _ _ _
    (λ r journals same. all_tallied (room_at c.args.rack) c.args.ended t.0 c.in-Ok.todo.items c.in-Ok-finish_seated.deeds.journal (length c.args.rack.thieves.items) r.0.journals r.1
    (ap workers_of same ∙ tally.0) (ap room_of same ∙ tally.1) (passes_many c.args.rack c.args.ended.passes.items c.requires.all) journals c.requires.own t.1 t.3 c.in-Ok-finish_seated.ensures.under) c.tallied.ensures.journals c.tallied.ensures.tally
