use Rattle.std.proofs.Common.{subst}
use Rattle.stow_data.specs.Plans.{Plan}
use Rattle.stowage_rules.specs.declared.faults.RuleBroken.{RuleBroken}
use Rattle.stowage_rules.specs.Faults.{IsFirstFault, MeetsRules}
use Rattle.arrival_plan.proofs.Legal.{keeps_all, keeps_heavy, keeps_near}
use Rattle.arrival_plan.proofs.settling.broken_rule.Goals as goal

pub returns-in_default : goal.returns-in_default
returns-in_default c = keeps_all c.args.ship.now c.args.cargo.now c.args.cargo.now.arrival c.requires (subst (λ (p : Plan). MeetsRules c.args.ship.now c.args.cargo.now p) c.arrival.ensures c.in_default.ensures)

pub returns-in-StackWeight : goal.returns-in-StackWeight
returns-in-StackWeight c =
    keeps_heavy c.args.ship.now c.args.cargo.now c.args.cargo.now.arrival c.requires c.in-StackWeight.stack c.in-StackWeight.kg
    (subst (λ (f : RuleBroken). IsFirstFault c.args.ship.now c.args.cargo.now c.args.cargo.now.arrival f) c.in-StackWeight.is (subst (λ (p : Plan). IsFirstFault c.args.ship.now c.args.cargo.now p c.in-Some.fault) c.arrival.ensures c.in-Some.ensures))

pub returns-in-Separation : goal.returns-in-Separation
returns-in-Separation c =
    keeps_near c.args.ship.now c.args.cargo.now c.args.cargo.now.arrival c.requires c.in-Separation.index c.in-Separation.first c.in-Separation.second
    (subst (λ (f : RuleBroken). IsFirstFault c.args.ship.now c.args.cargo.now c.args.cargo.now.arrival f) c.in-Separation.is (subst (λ (p : Plan). IsFirstFault c.args.ship.now c.args.cargo.now p c.in-Some.fault) c.arrival.ensures c.in-Some.ensures))
