use Rattle.std.proofs.Common.{rules}
use Rattle.bound_checker.specs.Entries.{IsBestBound}
use Rattle.bound_checker.proofs.Bounding.{bounds}
use Rattle.bound_checker.proofs.settled.settled_bound.Goals as goal

pub returns-in-Ok-clause-costs : goal.returns-in-Ok-clause-costs
returns-in-Ok-clause-costs c =
    let best : IsBestBound c.args.model.now c.args.tree.now c.args.most c.in-Ok.best = search rules in
    bounds c.args.model.now c.args.tree.now c.in-Ok.best best.proves
