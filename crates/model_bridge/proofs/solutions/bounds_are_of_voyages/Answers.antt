use Rattle.crossing_law.proofs.Crossed.{every_cross}
use Rattle.model_bridge.proofs.Final.{voyage_bound, cost_bound, none_sails}
use Rattle.model_bridge.proofs.solutions.bounds_are_of_voyages.Goals as goal

pub returns-clause-same : goal.returns-clause-same
returns-clause-same c = λ m bound rules. (voyage_bound m bound rules, cost_bound m bound rules)

pub returns-clause-proved : goal.returns-clause-proved
returns-clause-proved c = λ m bound rules costs. voyage_bound m bound rules (costs (every_cross m rules.arrives))

pub returns-clause-none : goal.returns-clause-none
returns-clause-none c = λ m rules costs. none_sails m rules (costs (every_cross m rules.arrives))
