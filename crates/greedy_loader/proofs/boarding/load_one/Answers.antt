use Rattle.std.proofs.Common.{Some, None, length, subst, sym}
use Rattle.stow_data.specs.declared.cargoes.Container.{Container}
use Rattle.stow_data.specs.Shipment.{IsShipped}
use Rattle.stow_data.proofs.PlanLookups.{container_is}
use Rattle.greedy_loader.specs.Rule.{IsChoice}
use Rattle.greedy_loader.proofs.Putting.{each_is}
use Rattle.greedy_loader.proofs.Aboard.{may_stand}
use Rattle.greedy_loader.proofs.boarding.load_one.Goals as goal

pub choice-requires-clause-kg : goal.choice-requires-clause-kg
choice-requires-clause-kg c = (each_is (IsShipped (length c.args.cargo.now.rotation)) c.args.cargo.now.containers c.args.c c.container.result.now c.obeys_rules.ensures.each_shipped c.container.ensures).kg_to

pub choice-requires-clause-dest : goal.choice-requires-clause-dest
choice-requires-clause-dest c = (each_is (IsShipped (length c.args.cargo.now.rotation)) c.args.cargo.now.containers c.args.c c.container.result.now c.obeys_rules.ensures.each_shipped c.container.ensures).in_rotation

pub put-requires-clause-can : goal.put-requires-clause-can
put-requires-clause-can c = may_stand c.args.ship.now c.args.cargo.now c.args.layout.now.plan c.container.result.now c.in-Some.p c.args.c c.requires.kept.formed c.requires.ashore c.container.ensures c.in-Some.ensures

pub returns-in-None-clause-goes : goal.returns-in-None-clause-goes
returns-in-None-clause-goes c = subst (λ (z : Container). IsChoice c.args.ship.now c.args.cargo.now c.args.layout.now.plan z None) (sym (container_is c.args.cargo.now c.args.c c.container.result.now c.container.ensures)) c.in-None.ensures

pub returns-in_ok-put-in-Some-clause-goes : goal.returns-in_ok-put-in-Some-clause-goes
returns-in_ok-put-in-Some-clause-goes c = (c.in-Some.p, subst (λ (z : Container). IsChoice c.args.ship.now c.args.cargo.now c.args.layout.now.plan z (Some c.in-Some.p)) (sym (container_is c.args.cargo.now c.args.c c.container.result.now c.container.ensures)) c.in-Some.ensures, c.in_ok-put-in-Some.ensures.plan)
