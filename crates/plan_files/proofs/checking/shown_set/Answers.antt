use Rattle.std.proofs.Common.{arith}
use Rattle.plan_files.proofs.Files.{are_plans, as_many}
use Rattle.plan_files.proofs.checking.shown_set.Goals as goal

pub lifted_on-requires-clause-each_call : goal.lifted_on-requires-clause-each_call
lifted_on-requires-clause-each_call c = omega (arith, c.requires.each_call, as_many c.args.ship.now c.args.cargo.now 1 c.args.messages.now c.in_ok-plans.plans c.in_ok-plans.ensures)

pub lifted_on-requires-clause-formed : goal.lifted_on-requires-clause-formed
lifted_on-requires-clause-formed c = are_plans c.args.ship.now c.args.cargo.now c.obeys_rules.ensures c.obeys_rules-2.ensures 1 c.args.messages.now c.in_ok-plans.plans c.in_ok-plans.ensures
