use Rattle.std.proofs.Common.{length, sym, subst}
use Rattle.shared_search.specs.Racks.{room_at}
use Rattle.steal_pool.specs.declared.found.Found.{Found}
use Rattle.parallel_search.specs.Tallied.{IsTallied}
use Rattle.steal_pool.specs.Found.{IsFound}
use Rattle.parallel_search.proofs.Ends.{ends_found}
use Rattle.parallel_search.proofs.searching.conclude.Goals as goal

pub returns-in-Ok-clause-found : goal.returns-in-Ok-clause-found
returns-in-Ok-clause-found g c =
    let t = c.close-totals.ensures in
    let start = c.args.shared.board.start in
    let budget = c.args.shared.board.budget in
    subst (IsFound c.args.shared.spare start budget) (sym c.found.ensures)
    (ends_found c.args.shared.spare start budget c.close-totals.result.best c.close-totals.result.drawn c.finish_off-all.new.owner.view c.in-Ok.all c.in-Ok.tally c.requires.owner.top c.in-Ok.ensures.done
    (record { most = t.low.0; seen = t.low.1; offered = t.low.2; from = t.from }) t.count t.within t.over)

pub returns-in-Ok-clause-tally : goal.returns-in-Ok-clause-tally
returns-in-Ok-clause-tally g c =
    subst (λ (f : Found). IsTallied (room_at c.args.shared.rack) (length c.args.shared.rack.thieves.items) f.journals f.tally) (sym c.found.ensures) c.in-Ok.ensures.tally
