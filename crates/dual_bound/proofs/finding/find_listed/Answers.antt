use Rattle.std.proofs.Common.{ap, Ok}
use Rattle.dual_bound.proofs.Flat.{flat_both}
use Rattle.dual_bound.proofs.finding.find_listed.Goals as goal

pub returns-in-None-clause-none : goal.returns-in-None-clause-none
returns-in-None-clause-none c = λ ok.
    flat_both c.args.model.now c.args.b.now c.args.m.now c.min-from.result c.rows-rows.result c.rows-rows.ensures.number (c.in_ok-rising.ensures.none (ap Ok c.in-None.is)) (c.find_between-in-None.ensures.none ok)
