use Rattle.stow_data.proofs.Made.{stack_in}
use Rattle.stowage_rules.proofs.separation.are_near.Goals as goal

pub is_near-requires-clause-first : goal.is_near-requires-clause-first
is_near-requires-clause-first c = stack_in c.args.ship.now c.args.p c.place.result c.place.ensures

pub is_near-requires-clause-second : goal.is_near-requires-clause-second
is_near-requires-clause-second c = stack_in c.args.ship.now c.args.q c.place-2.result c.place-2.ensures
