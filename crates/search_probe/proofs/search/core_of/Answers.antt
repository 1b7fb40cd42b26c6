use Rattle.std.proofs.Common.{subst, sym}
use Rattle.zero_one_rows.specs.Variables.{Voyage}
use Rattle.zero_one_rows.specs.Rows.{CrossingRowsHold}
use Rattle.search_probe.proofs.search.core_of.Goals as goal

pub start-requires-clause-crossing : goal.start-requires-clause-crossing
start-requires-clause-crossing c = subst (λ (v : Voyage). CrossingRowsHold v) (sym c.in_ok-judge.ensures) (c.crossing_rows_hold.ensures c.args.model.now c.requires.voyage)
