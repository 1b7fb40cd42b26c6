use Rattle.std.proofs.Common.{◌++◌, ◌∷◌, [], ap, ◌∙◌}
use Rattle.steal_pool.proofs.Steps.{on_ok}
use Rattle.parallel_search.specs.declared.joining.AllDeeds.{AllDeeds}
use Rattle.parallel_search.specs.Ends.{deeds_of}
use Rattle.parallel_search.specs.Together.{both}
use Rattle.parallel_search.proofs.Ends.{takes_in}
use Rattle.parallel_search.proofs.Tallying.{own_in}
use Rattle.parallel_search.proofs.joining.take_in.Goals as goal

pub returns-in-Ok-clause-end : goal.returns-in-Ok-clause-end
returns-in-Ok-clause-end g c = on_ok c.add.result (λ deeds m end worker_end. takes_in g.M.Wanted.meets c.args.board.now m c.args.owner.now.view c.join.new.owner.view c.args.ended.now _ c.args.worker_end c.requires.top c.join.ensures.view c.in-Ok.ensures.passes c.in-Ok.ensures.aside
    (deeds ∙ ap (λ (a : AllDeeds). both (deeds_of a) c.args.worker_end.deeds) c.take_in_nodes.ensures.all) end worker_end) c.add.ensures.deeds

pub returns-in-Ok-clause-own : goal.returns-in-Ok-clause-own
returns-in-Ok-clause-own g c = on_ok c.add.result (λ journals room own brings. own_in room c.args.ended.now _ c.args.worker_end c.in-Ok.ensures.passes c.in-Ok.ensures.aside
    (journals ∙ ap (λ (a : AllDeeds). a.journals ++ c.args.worker_end.deeds.journal ∷ []) c.take_in_nodes.ensures.all) own brings) c.add.ensures.journals
