use Rattle.std.proofs.Common.{arith}
use Rattle.zero_one_rows.proofs.Sizes.{most_cost_low}
use Rattle.plan_search.proofs.Certifying.{loaded_some}
use Rattle.plan_search.proofs.loaded.loaded.Goals as goal

pub returns : goal.returns
returns c =
    loaded_some c.args.model.now c.args.ship.now c.args.cargo.now c.in_ok-plans.field-0 c.in-Some.plans c.in_ok-cost.cost c.requires.ship c.requires.cargo c.requires.problem c.in-Some.is
    c.in_ok-plans.ensures.rule c.in_ok-plans.ensures.legal c.in_ok-plans.ensures.each_call c.in_ok-cost.ensures

pub overflow_add-result : goal.overflow_add-result
overflow_add-result c = omega (arith, c.limit.ensures, most_cost_low c.args.model.now.cargo c.requires.problem.cargo)
