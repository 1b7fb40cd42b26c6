use Rattle.std.proofs.Common.{sym, subst}
use Rattle.plan_files.specs.Checked.{IsRuleFault}
use Rattle.plan_files.specs.declared.plan_faults.PlanNo.{PlanNo}
use Rattle.plan_files.proofs.Files.{turned}
use Rattle.plan_files.proofs.checking.lifted_on.Goals as goal

pub returns-in-Err : goal.returns-in-Err
returns-in-Err c = subst (λ (e : PlanNo). IsRuleFault c.args.ship.now c.args.cargo.now c.args.plans.now e) (sym c.told_by.ensures) (turned c.args.ship.now c.args.cargo.now c.args.plans.now c.in-Err.fault c.in-Err.ensures.lists)
