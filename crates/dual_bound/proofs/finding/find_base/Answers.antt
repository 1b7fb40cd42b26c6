use Rattle.std.proofs.Common.{arith, ap, Ok}
use Rattle.dual_bound.proofs.BaseFlat.{base_few, base_both}
use Rattle.dual_bound.proofs.finding.find_base.Goals as goal

pub find_between-requires-clause-to : goal.find_between-requires-clause-to
find_between-requires-clause-to c = omega (arith, base_few c.args.model.now, c.base_rows-base.ensures)

pub find_between-requires-in-None-clause-to : goal.find_between-requires-in-None-clause-to
find_between-requires-in-None-clause-to c = omega (arith, base_few c.args.model.now, c.base_rows-base.ensures)

pub returns-in-None-clause-none : goal.returns-in-None-clause-none
returns-in-None-clause-none c = λ ok.
    base_both c.args.model.now c.args.b.now c.args.m.now c.min-from.result c.base_rows-base.result c.base_rows-base.ensures (c.in_ok-rising.ensures.none (ap Ok c.in-None.is)) (c.find_between-in-None.ensures.none ok) c.requires.crossing
