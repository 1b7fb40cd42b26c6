use Rattle.std.proofs.Common.{◌≡◌, [], ◌++◌, List, map, ap, ◌∙◌, rules}
use Rattle.shared_search.specs.declared.racks.Pass.{Pass}
use Rattle.parallel_search.specs.Ends.{pass_of}
use Rattle.parallel_search.proofs.Ends.{none_in}
use Rattle.parallel_search.proofs.Tallying.{own_none}
use Rattle.parallel_search.proofs.joining.take_in_all.Goals as goal

pub returns-in-Ok-clause-passes : goal.returns-in-Ok-clause-passes
returns-in-Ok-clause-passes g c =
    let passes : c.new.result.items ≡ [] = search rules in
    c.in-Ok.ensures.passes ∙ ap (λ (l : List (Pass g.row.M.Denot)). l ++ map pass_of c.args.worker_ends.items) passes

pub returns-in-Ok-clause-end : goal.returns-in-Ok-clause-end
returns-in-Ok-clause-end g c m worker_ends =
    let passes : c.new.result.items ≡ [] = search rules in
    let aside : c.new-2.result.items ≡ [] = search rules in
    c.in-Ok.ensures.end m (none_in g.M.Wanted.meets c.args.board.now m c.args.owner.now.view _ c.requires.view passes aside c.none.ensures.deeds) worker_ends

pub returns-in-Ok-clause-own : goal.returns-in-Ok-clause-own
returns-in-Ok-clause-own g c room worker_ends =
    let passes : c.new.result.items ≡ [] = search rules in
    let aside : c.new-2.result.items ≡ [] = search rules in
    c.in-Ok.ensures.own room (own_none room _ passes aside c.none.ensures.journals) worker_ends
