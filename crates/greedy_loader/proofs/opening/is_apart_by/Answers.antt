use Rattle.std.proofs.Common.{◌∙◌, sym}
use Rattle.stow_data.proofs.Made.{stack_in}
use Rattle.greedy_loader.proofs.Parts.{apart_near}
use Rattle.greedy_loader.proofs.opening.is_apart_by.Goals as goal

pub is_near-requires-clause-second : goal.is_near-requires-clause-second
is_near-requires-clause-second c = stack_in c.args.ship.now c.args.q c.place.result c.place.ensures

pub returns-else-not-is_near : goal.returns-else-not-is_near
returns-else-not-is_near c = apart_near c.args.ship.now c.args.cargo.now c.args.plan.now c.args.x.now c.container.result.now c.args.place.now c.place.result c.args.q c.args.e c.in-Some.d c.separation-rule.result.now c.are_separated.result c.separation-rule.ensures (record { is_place = c.place.ensures; holds = c.in-Some.ensures; is_container = c.container.ensures }) (sym c.is_near.ensures ∙ c.if-not-is_near.false) c.are_separated.ensures
