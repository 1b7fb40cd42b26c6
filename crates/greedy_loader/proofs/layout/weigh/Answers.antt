use Rattle.std.proofs.Common.{◌+◌, Some, length, length-set, ap, sym, ◌∙◌, subst, arith}
use Rattle.std.specs.Prelude.{slice_set}
use Rattle.stow_data.proofs.Made.{stack_in}
use Rattle.stowage_rules.proofs.Items.{slice_get_in}
use Rattle.stow_data.specs.Kinds.{rounded}
use Rattle.greedy_loader.specs.Kept.{AreWeights}
use Rattle.greedy_loader.proofs.Putting.{weights_put, weight_small}
use Rattle.greedy_loader.proofs.layout.weigh.Goals as goal

pub add_weight-requires-clause-inside : goal.add_weight-requires-clause-inside
add_weight-requires-clause-inside c = rw c.requires.each_stack (stack_in c.args.ship.now c.args.p c.args.place.now c.requires.can.is_place)

pub add_weight-requires-clause-small : goal.add_weight-requires-clause-small
add_weight-requires-clause-small c = λ w h. let e = c.requires.weights c.args.place.now.stack w h in omega (arith, e, weight_small c.args.ship.now c.args.cargo.now c.args.plan.now c.args.place.now.stack c.obeys_rules.ensures c.obeys_rules-2.ensures)

pub returns-clause-weights : goal.returns-clause-weights
returns-clause-weights c =
    let at = slice_get_in c.args.weights.now c.args.place.now.stack (rw c.requires.each_stack (stack_in c.args.ship.now c.args.p c.args.place.now c.requires.can.is_place)) in
    subst (AreWeights c.args.ship.now c.args.cargo.now (slice_set c.args.plan.now c.args.p (Some c.args.c))) (sym (c.add_weight.ensures at.0 at.1)) (weights_put c.args.ship.now c.args.cargo.now c.args.plan.now c.args.weights.now c.args.p c.args.c at.0 c.args.place.now c.args.x.now c.requires.can c.requires.weights at.1)

pub returns-clause-each_stack : goal.returns-clause-each_stack
returns-clause-each_stack c =
    let at = slice_get_in c.args.weights.now c.args.place.now.stack (rw c.requires.each_stack (stack_in c.args.ship.now c.args.p c.args.place.now c.requires.can.is_place)) in
    ap length (c.add_weight.ensures at.0 at.1) ∙ (length-set c.args.weights.now c.args.place.now.stack (at.0 + rounded c.args.ship.now.weight_step c.args.x.now.kg) ∙ c.requires.each_stack)
