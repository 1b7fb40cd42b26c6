use Rattle.std.proofs.Common.{ap, Ok}
use Rattle.dual_bound.proofs.BaseFlat.{base_both}
use Rattle.dual_bound.proofs.finding.find_unmet.Goals as goal

pub returns-in-None-clause-none : goal.returns-in-None-clause-none
returns-in-None-clause-none c = λ ok.
    base_both c.args.model.now c.args.b.now c.args.m.now c.min-from.result c.base_rows-base.result c.base_rows-base.ensures (c.in_ok-rising.ensures.none (ap Ok c.in-None.is)) (c.find_unmet_between-in-None.ensures.none ok) c.requires.crossing
