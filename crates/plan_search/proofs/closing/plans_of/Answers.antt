use Rattle.plan_search.proofs.Certifying.{sailed_plans, sailed_priced}
use Rattle.plan_search.proofs.closing.plans_of.Goals as goal

pub cost_of-requires-clause-plans : goal.cost_of-requires-clause-plans
cost_of-requires-clause-plans c = sailed_plans c.args.model.now c.args.full.now c.in_ok-plans.plans c.in_ok-plans.ensures

pub returns : goal.returns
returns c = sailed_priced c.args.model.now c.args.full.now c.in_ok-plans.plans c.in_ok-cost.cost c.in_ok-plans.ensures c.in_ok-cost.ensures
